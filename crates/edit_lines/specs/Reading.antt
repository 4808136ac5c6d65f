-- What an edit's line says.
use Rattle.std.specs.Prelude.{ℕ, Bool, cond, not, ◌&&◌, List, ◌++◌, length, is_some, Some, None, Ok, Err, codes, Option, Result, ◌==◌, nat_le}
use Rattle.std.specs.List.{list_all}
use Rattle.std.specs.Option.{ok_or}
use Rattle.std.specs.Int.{is_in_range}
use Rattle.std.specs.Str.{bytes_eq}
use Rattle.digits.specs.Numbers.{decimal, hexadecimal, up_to}
use Rattle.lines.specs.Words.{first_word, later_words, stray, value_in}
use Rattle.rows.specs.Keys.{Key}
use Rattle.edit_lines.specs.declared.read.Change.{Change}
use Rattle.edit_lines.specs.declared.unreadable.Field.{Field}
use Rattle.edit_lines.specs.declared.unreadable.Field.TheVariants.{Link, Tag, Was, Now}
use Rattle.edit_lines.specs.declared.unreadable.Unreadable.{Unreadable}
use Rattle.edit_lines.specs.declared.unreadable.Unreadable.TheVariants.{UnknownVerb, StrayWord, Missing, BadValue}

-- What of a row changes: its value, from one text to another.
pub record Changed : Type 0 where
  pub was : List ℕ
  pub becomes : List ℕ

abbrev pub change_of : Change → Changed
change_of c = record { was = c.was.now; becomes = c.becomes.now }

-- the answer to one thing, and then to the next
abbrev pub and_then : {X Y : Type 0} → Result X Unreadable → (X → Result Y Unreadable) → Result Y Unreadable
and_then (Ok x) next = next x
and_then (Err why) next = Err why

-- the same answer of another thing
abbrev pub mapped_ok : {X Y : Type 0} → (X → Y) → Result X Unreadable → Result Y Unreadable
mapped_ok f (Ok x) = Ok (f x)
mapped_ok f (Err why) = Err why

-- the key under which a line has a field
abbrev pub field_key : Field → List ℕ
field_key Link = codes "link"
field_key Tag = codes "tag"
field_key Was = codes "was"
field_key Now = codes "now"

-- what a user is told of a line that is no edit
abbrev pub text_of : Unreadable → List ℕ
text_of UnknownVerb = codes "the verb is not edit"
text_of StrayWord = codes "a word is unknown or stands twice"
text_of (Missing field) = field_key field ++ codes " is missing"
text_of (BadValue field) = field_key field ++ codes " cannot hold that value"

-- a field that has to be there, and has to be readable
abbrev pub wanted : {X : Type 0} → Field → (List ℕ → Option X) → Option (List ℕ) → Result X Unreadable
wanted field reads None = Err (Missing field)
wanted field reads (Some text) = ok_or (reads text) (BadValue field)

-- a list of at most n
abbrev pub short : ℕ → Option (List ℕ) → Option (List ℕ)
short n None = None
short n (Some xs) = cond (nat_le (length xs) n) (Some xs) None

-- whether a byte can stand in a value: printable ASCII, but no space and no '"'
abbrev pub printable : ℕ → Bool
printable c = is_in_range 33 126 c && not (c == 34)

abbrev pub all_printable : List ℕ → Bool
all_printable text = list_all printable text

-- a value, if each of its bytes can stand in one
abbrev pub as_value : List ℕ → Option (List ℕ)
as_value text = cond (all_printable text) (Some text) None

-- the link's number: decimal, at most 63
abbrev pub link_in : List (List ℕ) → Result ℕ Unreadable
link_in words = wanted Link (λ text. up_to 63 (decimal text)) (value_in (field_key Link) words)

-- the delivery tag: hexadecimal, at most 32 bytes
abbrev pub tag_in : List (List ℕ) → Result (List ℕ) Unreadable
tag_in words = wanted Tag (λ text. short 32 (hexadecimal text)) (value_in (field_key Tag) words)

-- a value
abbrev pub text_in : Field → List (List ℕ) → Result (List ℕ) Unreadable
text_in field words = wanted field as_value (value_in (field_key field) words)

-- the row: its link and its tag
abbrev pub key_in : List (List ℕ) → Result Key Unreadable
key_in words = and_then (link_in words) (λ l. and_then (tag_in words) (λ t. Ok (record { link = l; tag = t })))

-- the words that an edit may have after its verb
abbrev pub form : List (List ℕ)
form = later_words (codes "edit link= tag= was= now=")

-- The row that a line edits: the verb is right, no word is stray, and link and tag can be read.
abbrev pub row_in : List ℕ → Result Key Unreadable
row_in text =
    cond (bytes_eq (first_word text) (codes "edit"))
    (cond (is_some (stray form (later_words text))) (Err StrayWord) (key_in (later_words text)))
    (Err UnknownVerb)

-- the values before and after
abbrev pub change_in : List (List ℕ) → Result Changed Unreadable
change_in words =
    and_then (text_in Was words) (λ w. and_then (text_in Now words) (λ n. Ok (record { was = w; becomes = n })))

-- the whole edit: what is wrong with the row comes before what is wrong with the change
abbrev pub edit_in : List ℕ → Result (Key × Changed) Unreadable
edit_in text = and_then (row_in text) (λ k. and_then (change_in (later_words text)) (λ c. Ok (k, c)))
