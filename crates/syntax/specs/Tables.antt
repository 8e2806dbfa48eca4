-- What is known after some statements: the section's name, all labels, the tables, and how the section ends. Labels and switches are named, and
-- lines are places.
use Rattle.std.specs.Prelude.{Bool, false, cond, not, ◌&&◌, ◌||◌, List, [], ◌∷◌, ◌++◌, map, ℕ, ltb, length, ℤ, nat_abs}
use Rattle.language.specs.Limits as limit
use Rattle.language.specs.Program.{Op, Label}
use Rattle.language.specs.Values.{same_number, numeral, value_of}
use Rattle.language.specs.Below.Lists.{any, filled, head_or, keep, bytes_equal}
use Rattle.syntax.specs.ArgumentForms.{Argument, arguments}
use Rattle.syntax.specs.Items.{Item, is, places}
use Rattle.syntax.specs.Items.Sort.{word, text}
use Rattle.syntax.specs.Statements.{same_keyword, by_keyword, labels_in, operator, operator_at, keyword_in, chooses_english, rest, one_name}
use Rattle.syntax.specs.Statements.Keyword.{KONS, KONP}

-- an instruction: its operator's place, and its arguments
pub record Written : Type 0 where
  pub op : Op
  pub at : ℕ
  pub args : List Argument

-- a switch: its name, and the items of its list
pub record Choice : Type 0 where
  pub name : List ℕ
  pub goes_by_name : Bool
  pub list : List Item

pub record Tables : Type 0 where
  pub code : List Written
  pub labels : List Label
  pub switches : List Choice
  pub texts : List (List ℕ)
  pub numbers : List ℤ

-- for 25: KONS and KONP were met; the place of a KONP before any KONS; the places at fault
pub record Closing : Type 0 where
  pub after_KONS : Bool
  pub after_KONP : Bool
  pub early : List ℕ
  pub faults : List ℕ

-- the section's name, empty before SEKCJA; whether its edition is the English one; all labels so far; the labels that wait for their statement
pub record Draft : Type 0 where
  pub section : List ℕ
  pub english : Bool
  pub names : List (List ℕ)
  pub waiting : List Item
  pub tables : Tables
  pub closing : Closing

abbrev pub blank : Draft
blank =
    record {
      section = [];
      english = false;
      names = [];
      waiting = [];
      tables = record { code = []; labels = []; switches = []; texts = []; numbers = [] };
      closing = record { after_KONS = false; after_KONP = false; early = []; faults = [] };
    }

-- no statement was met yet
abbrev pub is_first : Draft → Bool
is_first d = not (filled d.section)

-- "labels alone .. belong to the next statement"
abbrev pub all_labels : Draft → List Item → List Item
all_labels d x = d.waiting ++ labels_in x

abbrev pub contents : List Item → List (List ℕ)
contents js = map (λ i. i.chars) js

-- the items whose value neither the table nor an earlier item has
module _ {X : Type 0} (equal : X → X → Bool) (value_of_lem : Item → X) where
  unfoldable pub fresh : List X → List Item → List Item
  fresh t [] = []
  fresh t (i ∷ js) = let new = cond (any (equal (value_of_lem i)) t) [] (i ∷ []) in new ++ fresh (t ++ map value_of_lem new) js

-- "different texts longer than one character", "different numbers beyond 15 in size" that a statement brings to the tables
abbrev pub new_texts : Tables → List Item → List Item
new_texts t js = fresh bytes_equal (λ i. i.chars) t.texts (keep (λ i. is text i && ltb 1 (length i.chars)) js)

abbrev pub number_in : Item → ℤ
number_in i = value_of i.chars

abbrev pub new_numbers : Tables → List Item → List Item
new_numbers t js =
    fresh same_number number_in t.numbers (keep (λ i. is word i && numeral i.chars && ltb limit.small (nat_abs (number_in i))) js)

-- The tables after the statement x with the labels ls
unfoldable pub with_instr : Tables → List Item → List Item → Op → Tables
with_instr t ls x op =
    record {
      code = t.code ++ (record { op = op; at = operator_at x; args = arguments op (rest x) } ∷ []);
      labels = t.labels ++ map (λ l. record { name = l.chars; target = length t.code }) ls;
      switches = t.switches;
      texts = t.texts ++ contents (new_texts t (rest x));
      numbers = t.numbers ++ map number_in (new_numbers t (rest x));
    }

unfoldable pub with_switch : Tables → List Item → List Item → Bool → Tables
with_switch t ls x goes_by_name =
    record {
      code = t.code;
      labels = t.labels;
      switches = t.switches ++ (record { name = head_or [] (contents ls); goes_by_name = goes_by_name; list = rest x } ∷ []);
      texts = t.texts ++ contents (new_texts t (rest x));
      numbers = t.numbers;
    }

abbrev pub tables_after : Tables → List Item → List Item → Tables
tables_after t ls x = by_keyword (with_instr t ls x) (with_switch t ls x) t (keyword_in x)

-- "`KONS`, then `KONP` and the same name", "nothing but separators, `;` and new lines after": what of the statement x is at fault
unfoldable pub closing_faults : List ℕ → Closing → List Item → List Item → List ℕ
closing_faults section c ls x =
    cond c.after_KONP (places (ls ++ operator x))
    (cond (same_keyword KONP (keyword_in x)) (places ls ++ one_name (bytes_equal section) (operator_at x) (rest x))
    (cond c.after_KONS (places (ls ++ operator x))
    (cond (same_keyword KONS (keyword_in x)) (places (ls ++ rest x))
    [])))

unfoldable pub closing_after : List ℕ → Closing → List Item → List Item → Closing
closing_after section c ls x =
    record {
      after_KONS = c.after_KONS || same_keyword KONS (keyword_in x);
      after_KONP = c.after_KONP || same_keyword KONP (keyword_in x);
      early = c.early ++ cond (same_keyword KONP (keyword_in x) && not (c.after_KONP || c.after_KONS)) (places (operator x)) [];
      faults = c.faults ++ closing_faults section c ls x;
    }

-- The draft after the statement x. The first is SEKCJA; labels alone wait
unfoldable pub draft_after : Draft → List Item → Draft
draft_after d x =
    record {
      section = cond (is_first d) (head_or [] (contents (rest x))) d.section;
      english = cond (is_first d) (chooses_english x) d.english;
      names = d.names ++ contents (labels_in x);
      waiting = cond (filled (operator x)) [] (all_labels d x);
      tables = tables_after d.tables (all_labels d x) x;
      closing = cond (filled (operator x)) (closing_after d.section d.closing (all_labels d x) x) d.closing;
    }
