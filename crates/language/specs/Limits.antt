-- The limits of document 01, each number once. The same numbers are constants of the machine's type in src/, and `limits` there ties the two.
use Rattle.std.specs.Prelude.{List, [], ◌∷◌, ℕ}

-- "Limits: text 32,768 bytes; 512 instructions; 128 labels of instructions; 32 switches, 128 entries in all; 128 different texts longer than
-- one character; 128 different numbers beyond 15 in size; identifier, number and text 60 characters"
abbrev pub text : ℕ
text = 32768

abbrev pub instructions : ℕ
instructions = 512

abbrev pub labels : ℕ
labels = 128

abbrev pub switches : ℕ
switches = 32

abbrev pub entries : ℕ
entries = 128

abbrev pub texts : ℕ
texts = 128

abbrev pub numbers : ℕ
numbers = 128

abbrev pub small : ℕ
small = 15

abbrev pub item : ℕ
item = 60

-- "E and P go from 1 to 32, I and Q from 1 to 2"
abbrev pub expressions : ℕ
expressions = 32

abbrev pub files : ℕ
files = 32

abbrev pub inputs : ℕ
inputs = 2

abbrev pub outputs : ℕ
outputs = 2

-- "An input has at most 65,536 bytes. E and P together hold at most 1,024 components and 8,192 characters. Files hold at most 256 records in
-- all; a word 255 characters; each Q 4,096; the return stack 64. Numbers lie within ±8,388,607." "At most 8,388,607 addresses given? 60"
abbrev pub input : ℕ
input = 65536

abbrev pub components : ℕ
components = 1024

abbrev pub characters : ℕ
characters = 8192

abbrev pub records : ℕ
records = 256

abbrev pub word : ℕ
word = 255

abbrev pub output : ℕ
output = 4096

abbrev pub stack : ℕ
stack = 64

abbrev pub size : ℕ
size = 8388607

abbrev pub addresses : ℕ
addresses = 8388607

-- "a table of 8,192 numbers of 32 bits and a state of 40,960 bytes"
abbrev pub table : ℕ
table = 8192

abbrev pub state : ℕ
state = 40960

-- all of them, in the order above
abbrev pub listed : List ℕ
listed = text ∷ instructions ∷ labels ∷ switches ∷ entries ∷ texts ∷ numbers ∷ small ∷ item ∷ expressions ∷ files ∷ inputs ∷ outputs ∷ input ∷ components ∷ characters ∷ records ∷ word ∷ output ∷ stack ∷ size ∷ addresses ∷ table ∷ state ∷ []
