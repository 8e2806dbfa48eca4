pub mod Origins
pub mod OriginLaws
pub mod SectionLaws
pub mod Long
pub mod LongLaws
pub mod DeepLaws
pub mod Below
