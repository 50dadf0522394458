-- The command of the program, by clap's definition of a simple command.
use Rattle.std.specs.Prelude.{◌≡◌, ◌≢◌, ◌≤◌, ℕ, List, [], true, Option, Some, None, codes, map, string_bytes}
use Rattle.std.specs.Str.Parse.{IsNumeral, digits_value, without_leading_plus}
use Rattle.std.proofs.Common.{String, Global}
use Rattle.clap.specs.Words.{App, Rule, Text, Row, fault_of, first_of, matches_of, new_app, new_rule, with_rule}
use Rattle.clap.specs.Simple.{on_top}
use Rattle.tm_base.specs.Limits.{max_blocks}

-- words as lists of bytes
abbrev pub texts : List (String Global) → List Text
texts words = map (λ w. string_bytes w) words

-- ---- what clap is told

-- an option that must stand, with one text
abbrev pub path_rule : Text → Rule
path_rule name = record (new_rule name) { long = Some name; required = true }

-- `--create`, with one text, which may be left out
abbrev pub create_rule : Rule
create_rule = record (new_rule (codes "create")) { long = Some (codes "create") }

-- a command without options, whose words don't begin with the program's name
abbrev pub bare_app : App
bare_app = on_top (λ shape. record shape { no_binary_name = true }) (new_app (codes "tmvol"))

-- `--volume PATH --store PATH --script PATH [--create BLOCKS]`, in any order
abbrev pub tmvol : App
tmvol = with_rule (with_rule (with_rule (with_rule bare_app (path_rule (codes "volume"))) (path_rule (codes "store"))) (path_rule (codes "script"))) create_rule

-- ---- what clap makes of words

-- it finds no fault in them
unfoldable pub IsFaultless : List Text → Type 0
IsFaultless words = fault_of tmvol words ≡ []

-- what it finds at each option
unfoldable pub matched : List Text → List Row
matched words = matches_of tmvol words

-- ---- the command

-- decimal digits, before which a plus may stand, that write a number of blocks from 1 to the most
pub record IsBlocks (text : Text) (blocks : ℕ) : Type 0 where
  pub numeral : IsNumeral 10 (without_leading_plus text)
  pub value : blocks ≡ digits_value 10 (without_leading_plus text)
  pub least : 1 ≤ blocks
  pub most : blocks ≤ max_blocks

-- no text, or that of a number of blocks
abbrev pub IsCreate : Option Text → Option ℕ → Type 0
IsCreate None None = Unit {0}
IsCreate None (Some blocks) = ⊥
IsCreate (Some text) None = ⊥
IsCreate (Some text) (Some blocks) = IsBlocks text blocks

-- these are the texts that were found
pub record Names (rows : List Row) (volume store script : Text) (create : Option ℕ) : Type 0 where
  pub volume_is : first_of (codes "volume") rows ≡ Some volume
  pub store_is : first_of (codes "store") rows ≡ Some store
  pub script_is : first_of (codes "script") rows ≡ Some script
  pub create_is : IsCreate (first_of (codes "create") rows) create

-- the words are the command with these paths, of which the first two differ, and this number of blocks, if any
pub record IsCommand (words : List Text) (volume store script : Text) (create : Option ℕ) : Type 0 where
  pub faultless : IsFaultless words
  pub names : Names (matched words) volume store script create
  pub differ : volume ≢ store

-- and with some
pub record IsSomeCommand (words : List Text) : Type 0 where
  pub volume : Text
  pub store : Text
  pub script : Text
  pub create : Option ℕ
  pub is : IsCommand words volume store script create

-- what was found are the texts of some command
pub record NamesSome (rows : List Row) : Type 0 where
  pub volume : Text
  pub store : Text
  pub script : Text
  pub create : Option ℕ
  pub names : Names rows volume store script create
  pub differ : volume ≢ store

-- words are one command at most
abbrev pub OneCommand : Type 0
OneCommand = (words : List Text) (volume store script : Text) (create : Option ℕ) (v s p : Text) (make : Option ℕ)
    → IsCommand words volume store script create → IsCommand words v s p make
    → (volume ≡ v) × (store ≡ s) × (script ≡ p) × (create ≡ make)
