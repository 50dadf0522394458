-- What a word spells.
use Rattle.std.specs.Prelude.{◌≢◌, All, IsUtf8, ◌≡◌, ℕ, ◌≤◌, ◌<◌, ◌^◌, List, [], ◌∷◌, Some, length, IsTrue, nat_eq, codes}
use Rattle.std.specs.List.{starts_with}
use Rattle.std.specs.Option.{option_map}
use Rattle.std.specs.Str.Parse.{IsNumeral, digits_value}
use Rattle.std.specs.Int.{w128, from_be_bytes}
use Rattle.percent_encoding.specs.Percent.{percent_decode}
use Rattle.uuid.specs.Text.{parsed}
use Rattle.tm_base.specs.Limits.{max_names, max_value_bytes, max_target_bytes, max_events}
use Rattle.tm_base.specs.Days.{moment_text, last_moment}
use Rattle.tm_base.specs.IsName.{IsName}
use Rattle.tm_text.specs.Pieces.{pieces}
use Rattle.tm_text.specs.declared.place.StorePath.{StorePath}
use Rattle.tm_text.specs.declared.place.StorePath.TheVariants as store_path
use Rattle.tm_text.specs.declared.place.ItemAt.{ItemAt}
use Rattle.tm_text.specs.declared.place.SnapshotAt.{SnapshotAt}
use Rattle.tm_text.specs.declared.place.Stored.{Stored}
use Rattle.tm_text.specs.declared.place.Stored.TheVariants as stored
use Rattle.tm_text.specs.declared.place.Which.{Which}
use Rattle.tm_text.specs.declared.place.Which.TheVariants as which

-- NAME and MACHINE: it decodes to a name
unfoldable pub IsNameWord : List ℕ → List ℕ → Type 0
IsNameWord word name = (name ≡ percent_decode word) × IsName name

-- TEXT: it decodes to any bytes
unfoldable pub IsText : List ℕ → List ℕ → Type 0
IsText word bytes = bytes ≡ percent_decode word

-- VALUE, where it is not left out
unfoldable pub IsValue : List ℕ → List ℕ → Type 0
IsValue word bytes = (bytes ≡ percent_decode word) × (length bytes ≤ max_value_bytes)

-- TARGET: it decodes to 1 to 1,023 bytes of UTF-8 without NUL
unfoldable pub IsTarget : List ℕ → List ℕ → Type 0
IsTarget word bytes =
    (bytes ≡ percent_decode word) × (1 ≤ length bytes) × (length bytes ≤ max_target_bytes) × IsUtf8 bytes × All (λ b. b ≢ 0) bytes

-- LENGTH, SEED, COUNT, N: 1 to 20 digits, below 2^64
unfoldable pub IsNumber : List ℕ → ℕ → Type 0
IsNumber word n = IsNumeral 10 word × (length word ≤ 20) × (n ≡ digits_value 10 word) × (n < 2 ^ 64)

-- EVENTS: such a number from 1 to 65,536
unfoldable pub IsEvents : List ℕ → ℕ → Type 0
IsEvents word n = IsNumber word n × (1 ≤ n) × (n ≤ max_events)

-- N of `advance`: such a number that is not 0
unfoldable pub IsSteps : List ℕ → ℕ → Type 0
IsSteps word n = IsNumber word n × (1 ≤ n)

-- UID and GID
unfoldable pub IsOwner : List ℕ → ℕ → Type 0
IsOwner word n = IsNumber word n × (n < 2 ^ 32)

-- MODE: 1 to 4 octal digits
unfoldable pub IsMode : List ℕ → ℕ → Type 0
IsMode word n = IsNumeral 8 word × (length word ≤ 4) × (n ≡ digits_value 8 word)

-- DATE: the text of a moment
unfoldable pub IsDate : List ℕ → ℕ → Type 0
IsDate word moment = (moment ≤ last_moment) × (word ≡ moment_text moment)

-- ID, in any of its four forms
unfoldable pub IsId : List ℕ → ℕ → Type 0
IsId word id = (id < 2 ^ 128) × (option_map (from_be_bytes w128) (parsed word) ≡ Some id)

-- the parts of a path spell its names
abbrev pub AreNames : List (List ℕ) → List (List ℕ) → Type 0
AreNames [] [] = Unit {0}
AreNames (part ∷ parts) (name ∷ names) = IsNameWord part name × AreNames parts names
AreNames [] (name ∷ names) = ⊥
AreNames (part ∷ parts) [] = ⊥

-- P and Q: it begins with `/`, and each part decodes to a name, of which there are at most 64
unfoldable pub IsPath : List ℕ → List (List ℕ) → Type 0
IsPath word path = IsTrue (starts_with nat_eq word (codes "/")) × AreNames (pieces 0x2F word) path × (length path ≤ max_names)

-- a date, or the word `Latest`
unfoldable pub IsWhich : List ℕ → Which → Type 0
IsWhich part which.Latest = part ≡ codes "Latest"
IsWhich part (which.At moment) = IsDate part moment

-- the parts of a store path after the first
unfoldable pub IsStorePathParts : List (List ℕ) → StorePath → Type 0
IsStorePathParts parts store_path.Top = parts ≡ []
IsStorePathParts parts (store_path.Machine machine) = (m : List ℕ) × (parts ≡ m ∷ []) × IsNameWord m machine
IsStorePathParts parts (store_path.Snapshot s) =
    (m d : List ℕ) × (parts ≡ m ∷ d ∷ []) × IsNameWord m s.machine × IsWhich d s.at
IsStorePathParts parts (store_path.Item i) =
    (m d v : List ℕ) × (rest : List (List ℕ)) × (parts ≡ m ∷ d ∷ v ∷ rest)
    × IsNameWord m i.snapshot.machine × IsWhich d i.snapshot.at × IsNameWord v i.volume × AreNames rest i.path × (length i.path ≤ max_names)

-- SP: a store path
unfoldable pub IsStorePath : List ℕ → StorePath → Type 0
IsStorePath word place =
    (top : List ℕ) × (below : List (List ℕ)) × IsTrue (starts_with nat_eq word (codes "/"))
    × (pieces 0x2F word ≡ top ∷ below) × (percent_decode top ≡ codes "Backups.backupdb") × IsStorePathParts below place

-- SP of an item
unfoldable pub IsItem : List ℕ → ItemAt → Type 0
IsItem word item = IsStorePath word (store_path.Item item)

-- SP of a snapshot
unfoldable pub IsSnapshot : List ℕ → SnapshotAt → Type 0
IsSnapshot word snapshot = IsStorePath word (store_path.Snapshot snapshot)

-- SP of either
unfoldable pub IsStored : List ℕ → Stored → Type 0
IsStored word (stored.Snapshot snapshot) = IsStorePath word (store_path.Snapshot snapshot)
IsStored word (stored.Item item) = IsStorePath word (store_path.Item item)
