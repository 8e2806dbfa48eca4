-- The two editions. The converter (Convert) with examples, and the 46 pairs of words (PairLaws). Then what its laws rest on: items at other places
-- (Moving) and what load makes of them (MapLaws, MovingLaws, AcceptLaws); statements in the other edition (Turning, TurningLaws); the converter as
-- one pass over the bytes beside the reader (Rewriting), with the reader's laws (ReadingLaws), the items of what it writes (RewritingLaws), the pass
-- over what it wrote (BackLaws), and that it is the converter (LateLaws, SpliceLaws). At last the promises: ConvertLaws, RunLaws, EditionLaws; and for
-- proofs of code the answer question by question (AnswerLaws) and the text from item to item (Passing, PassingLaws).
pub mod Convert
pub mod Examples
pub mod Moving
pub mod Turning
pub mod Rewriting
pub mod Passing
