-- What the 64 bytes of a tag say.
use Rattle.std.specs.Prelude.{◌≡◌, ℕ, ◌<◌, ◌≤◌, ◌^◌, List, ◌∷◌, ◌++◌, replicate}
use Rattle.tm_base.specs.Days.{last_moment}
use Rattle.tm_codec.specs.Fields.{u64_text}
use Rattle.tm_world.specs.declared.world.Side.{Side}
use Rattle.tm_world.specs.declared.world.Side.TheVariants.{Volume, Store}

-- the last second of the year 9999
abbrev pub latest : ℕ
latest = last_moment

-- whether a volume was closed cleanly, its generation, and its next number
abbrev pub volume_tag : ℕ → ℕ → ℕ → List ℕ
volume_tag clean generation next = clean ∷ replicate 7 0 ++ u64_text generation ++ u64_text next ++ replicate 40 0

pub record IsVolumeTag (tag : List ℕ) : Type 0 where
  pub clean : ℕ
  pub generation : ℕ
  pub next : ℕ
  pub is : tag ≡ volume_tag clean generation next
  pub clean_most : clean ≤ 1
  pub generation_least : 1 ≤ generation
  pub generation_most : generation < 2 ^ 62
  pub next_least : 1 ≤ next
  pub next_most : next ≤ 2 ^ 62

-- whether a store has a running backup, its date in seconds, and the number of the next backup
abbrev pub store_tag : ℕ → ℕ → ℕ → List ℕ
store_tag running date number = running ∷ replicate 7 0 ++ u64_text date ++ u64_text number ++ replicate 40 0

pub record IsStoreTag (tag : List ℕ) : Type 0 where
  pub running : ℕ
  pub date : ℕ
  pub number : ℕ
  pub is : tag ≡ store_tag running date number
  pub running_most : running ≤ 1
  pub date_most : date ≤ latest
  pub no_date : running ≡ 0 → date ≡ 0
  pub number_least : 1 ≤ number
  pub number_most : number ≤ 2 ^ 40

-- the tag of a side has its fields within their bounds
abbrev pub IsTag : Side → List ℕ → Type 0
IsTag Volume tag = IsVolumeTag tag
IsTag Store tag = IsStoreTag tag
