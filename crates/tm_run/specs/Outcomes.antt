-- What a run gives where no part fails and memory is ample: its status, and what it says.
use Rattle.std.specs.Prelude.{◌≡◌, ℕ, ◌<◌, ◌≤◌, Bool, true, false, Option, Some, List, ◌++◌, length, codes}
use Rattle.std.specs.Fmt.{decimal}
use Rattle.tm_base.specs.declared.refused.Side.{Side}
use Rattle.tm_base.specs.Limits.{max_blocks, max_script_bytes}
use Rattle.tm_base.specs.declared.refused.Side.TheVariants as side
use Rattle.tm_world.specs.Disk.{Image}
use Rattle.tm_world.specs.Outside.{Outside}
use Rattle.tm_world.specs.declared.cause.Cause.{Cause}
use Rattle.tm_world.specs.declared.cause.Cause.TheVariants as cause
use Rattle.tm_text.specs.declared.line.Line.{Line}
use Rattle.tm_text.specs.Script.{IsScript, IsFirstBad}
use Rattle.tm_store_records.specs.States.{StoreFails}
use Rattle.tm_volume.specs.Answers.{FailsVolume, IsSpent}
use Rattle.tm_machine.specs.Fitting.{FitsReopened}
use Rattle.tm_machine.specs.States.{Stored, opened}
use Rattle.tm_machine.specs.Stops.{CanOpen, CanOpenStore, PairReads}
use Rattle.tm_machine.specs.Runs.{said_of, any_refused}
use Rattle.tm_run.specs.declared.status.Status.{Status}
use Rattle.tm_run.specs.declared.status.Status.TheVariants as status
use Rattle.tm_command.specs.Command.{IsCommand, IsSomeCommand}
use Rattle.tm_run.specs.Pairs.{AreSmall, image_at}

-- ---- the lines that a run says in place of replies

abbrev pub usage_line : List ℕ
usage_line = codes "usage: tmvol --volume PATH --store PATH --script PATH [--create BLOCKS]\n"

abbrev pub too_long_line : List ℕ
too_long_line = codes "script too long\n"

unfoldable pub bad_line : ℕ → List ℕ
bad_line n = codes "script line " ++ (decimal n ++ codes "\n")

abbrev pub side_word : Side → List ℕ
side_word side.Volume = codes "volume"
side_word side.Store = codes "store"

abbrev pub cause_word : Cause → List ℕ
cause_word cause.Slot = codes "slot"
cause_word cause.Chain = codes "chain"
cause_word cause.Table = codes "table"
cause_word cause.Pages = codes "pages"
cause_word cause.Block = codes "block"
cause_word cause.Room = codes "room"
cause_word cause.Record = codes "record"
cause_word cause.Spent = codes "spent"

-- which image is bad, by which check, and where
unfoldable pub bad_image_line : Side → Cause → ℕ → List ℕ
bad_image_line s c place = codes "bad image " ++ (side_word s ++ (codes " " ++ (cause_word c ++ (codes " " ++ (decimal place ++ codes "\n")))))

-- ---- lines over a pair of images

-- whether some line was refused
abbrev pub done_status : Bool → Status
done_status false = status.Done
done_status true = status.DoneRefused

-- the lines, over these images, give this status and say this
pub data Ran (v z : Image) (lines : List Line) : Status → List ℕ → Type 0 where
  -- a check of the volume's image fails; the store's is not read
  bad_volume : {c : Cause} {place : ℕ} → 3 ≤ v.count → FailsVolume v c place → Ran v z lines (status.BadImage side.Volume c place) (bad_image_line side.Volume c place)
  -- the volume can be opened, and a check of the store's image fails
  bad_store : {c : Cause} {place : ℕ} → CanOpen v → 3 ≤ z.count → StoreFails z c place → Ran v z lines (status.BadImage side.Store c place) (bad_image_line side.Store c place)
  -- the pair reads as r, and the plain machine replies to the lines from the state that opening makes of it
  replies : {r : Stored} → PairReads r v z → ¬ IsSpent r.volume
      → Ran v z lines (done_status (any_refused (opened v.count z.count r) lines)) (said_of (opened v.count z.count r) lines)

-- ---- a run

-- the words are a command, the script at its path is these lines, and these images stand at its paths or are made there
pub record IsStart (words : List (List ℕ)) (outside : Outside) (lines : List Line) (v z : Image) : Type 0 where
  pub volume : List ℕ
  pub store : List ℕ
  pub path : List ℕ
  pub create : Option ℕ
  pub script : List ℕ
  pub command : IsCommand words volume store path create
  pub stands : outside.scripts path ≡ Some script
  pub short : length script ≤ max_script_bytes
  pub is_script : IsScript script lines
  pub volume_is : v ≡ image_at volume create outside
  pub store_is : z ≡ image_at store create outside

-- these words, and the script and the images that stand at the paths which they name, give this status and say this
pub data Outcome (words : List (List ℕ)) (outside : Outside) : Status → List ℕ → Type 0 where
  -- the words are not the command
  usage : (IsSomeCommand words → ⊥) → Outcome words outside status.Usage usage_line
  -- the script has more bytes than a script may have
  too_long : {volume store path script : List ℕ} {create : Option ℕ} → IsCommand words volume store path create → outside.scripts path ≡ Some script
      → max_script_bytes < length script → Outcome words outside (status.Script 0) too_long_line
  -- a line of the script is outside the grammar, and this is the first
  bad : {volume store path script : List ℕ} {create : Option ℕ} {n : ℕ} → IsCommand words volume store path create → outside.scripts path ≡ Some script
      → length script ≤ max_script_bytes → IsFirstBad script n → Outcome words outside (status.Script n) (bad_line n)
  -- the script is lines, which are run over the images
  runs : {lines : List Line} {v z : Image} {ended : Status} {text : List ℕ} → IsStart words outside lines v z → Ran v z lines ended text
      → Outcome words outside ended text

-- one outcome alone is given
abbrev pub OneOutcome : Type 0
OneOutcome = (words : List (List ℕ)) (outside : Outside) → AreSmall outside → (a b : Status) (x y : List ℕ)
    → Outcome words outside a x → Outcome words outside b y → (a ≡ b) × (x ≡ y)

-- some words and what stands outside name one script and one pair of images
abbrev pub OneStart : Type 0
OneStart = (words : List (List ℕ)) (outside : Outside) (lines others : List Line) (v w y z : Image)
    → IsStart words outside lines v z → IsStart words outside others w y → (lines ≡ others) × (v ≡ w) × (z ≡ y)

-- where they do, the outcome is that of the lines over the images
abbrev pub StartsRun : Type 0
StartsRun = (words : List (List ℕ)) (outside : Outside) (lines : List Line) (v z : Image) (ended : Status) (text : List ℕ)
    → IsStart words outside lines v z → Outcome words outside ended text → Ran v z lines ended text

-- an image of which a check fails can't be opened
pub record BadIsShut : Type 0 where
  pub volume : (v : Image) (c : Cause) (place : ℕ) → 3 ≤ v.count → v.count ≤ max_blocks → FailsVolume v c place → CanOpen v → ⊥
  pub store : (z : Image) (c : Cause) (place : ℕ) → 3 ≤ z.count → z.count ≤ max_blocks → StoreFails z c place → CanOpenStore z → ⊥

-- ---- fit

-- what a pair of images reads as, if anything, fits once it is opened again
abbrev pub FitsPair : Image → Image → Type 0
FitsPair v z = (r : Stored) → PairReads r v z → FitsReopened r

-- and so does the pair that some words name
abbrev pub FitsStart : List (List ℕ) → Outside → Type 0
FitsStart words outside = (lines : List Line) (v z : Image) → IsStart words outside lines v z → FitsPair v z
