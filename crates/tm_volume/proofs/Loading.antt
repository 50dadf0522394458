-- What was read is a volume, or fails a check.
use Rattle.std.proofs.Common.{◌≡◌, ℕ, ◌-◌, ◌^◌, ◌∙◌, Bool, true, false, not, List, Result, Err, refl, sym, subst}
use Rattle.tm_image.specs.Laws.{StandingIsRead}
use Rattle.tm_image.specs.Load.{Fails}
use Rattle.tm_image.specs.Reads.{ReadsAsTable, entries_of}
use Rattle.tm_image.specs.Room.{HasRoom}
use Rattle.tm_image.specs.Seen.{Seen as ImageSeen, IsSound, IsSettled, Stands}
use Rattle.tm_image.specs.declared.error.LoadError.{LoadError}
use Rattle.tm_image.specs.declared.error.LoadError.TheVariants as load
use Rattle.tm_world.specs.Disk.{Disk}
use Rattle.tm_world.specs.declared.cause.Cause.{Cause}
use Rattle.tm_world.specs.declared.cause.Cause.TheVariants.{Slot, Chain, Table, Pages, Block, Room, Record, Spent}
use Rattle.tm_world.specs.declared.world.Side.{Side}
use Rattle.tm_world.specs.declared.world.Side.TheVariants.{Volume as OfVolume}
use Rattle.tm_volume.specs.Answers.{FailsVolume}
use Rattle.tm_volume_records.specs.Loads.{IfBadKey}
use Rattle.tm_volume.specs.Reads.{tag_bytes}
use Rattle.tm_volume_records.specs.Rules.{Tag, IsTagged, IsGoodVolume, IsLeastBad}

-- a failure that is handed on
pub handed_on : {A : Type 0} {result : Result A LoadError} {error why : LoadError} → result ≡ Err error → result ≡ Err why → error ≡ why
handed_on from is = same_error (sym from ∙ is)
  where
    same_error : {A : Type 0} {a b : LoadError} → ◌≡◌ {A = Result A LoadError} (Err a) (Err b) → a ≡ b
    same_error h = cc

-- a step of every image's
pub fails_volume : (count : ℕ) (bytes : ℕ → List ℕ) (why : Cause) (place : ℕ) → Fails OfVolume count bytes why place → FailsVolume (record { count = count; bytes = bytes }) why place
fails_volume count bytes Slot place h = h
fails_volume count bytes Chain place h = h
fails_volume count bytes Table place h = h
fails_volume count bytes Pages place h = h
fails_volume count bytes Block place h = h
fails_volume count bytes Room place h = h
fails_volume count bytes Record place h = absurd h
fails_volume count bytes Spent place h = absurd h

pub is_off : (b : Bool) → not b ≡ true → b ≡ false
is_off true h = cc
is_off false h = refl

pub no_unformatted : (A : Type 0) (error : LoadError) (P : ℕ → Type 0) → IfBadKey {A = A} (Err error) P → error ≡ load.Unformatted → ⊥
no_unformatted A error P h is = subst (λ (e : LoadError). IfBadKey {A = A} (Err e) P) is h

pub record IsLoadedImage (m : ImageSeen) (d : Disk) (blocks : ℕ) (tag : Tag) : Type 0 where
  pub side : m.side ≡ OfVolume
  pub sound : IsSound m
  pub settled : IsSettled m
  pub space : HasRoom m
  pub stands : Stands m d
  pub count : d.count ≡ blocks
  pub tag_is : m.root.tag ≡ tag_bytes tag
  pub tagged : IsTagged tag

module _ (law : StandingIsRead) (m : ImageSeen) (d : Disk) (blocks : ℕ) (tag : Tag) (is : IsLoadedImage m d blocks tag) where
  reads : ReadsAsTable OfVolume (entries_of d.bytes m.records) (tag_bytes tag) (record { count = blocks; bytes = d.bytes })
  reads =
      subst (λ n. ReadsAsTable OfVolume (entries_of d.bytes m.records) (tag_bytes tag) (record { count = n; bytes = d.bytes })) is.count
      (subst (λ t. ReadsAsTable OfVolume (entries_of d.bytes m.records) t (record { count = d.count; bytes = d.bytes })) is.tag_is
      (subst (λ (s : Side). ReadsAsTable s (entries_of d.bytes m.records) m.root.tag (record { count = d.count; bytes = d.bytes })) is.side (law m d is.sound is.settled is.space is.stands)))

  pub fails_record : (A : Type 0) (error : LoadError) → IfBadKey {A = A} (Err error) (IsLeastBad (entries_of d.bytes m.records) tag) → (why : Cause) (place : ℕ) → error ≡ load.Bad why place
      → FailsVolume (record { count = blocks; bytes = d.bytes }) why place
  fails_record A error bad why place same =
      let b = subst (λ (e : LoadError). IfBadKey {A = A} (Err e) (IsLeastBad (entries_of d.bytes m.records) tag)) same bad in
      subst (λ (k : Cause). FailsVolume (record { count = blocks; bytes = d.bytes }) k place) (sym b.0) (entries_of d.bytes m.records, tag, is.tagged, reads, b.1)

  pub fails_spent : IsGoodVolume (entries_of d.bytes m.records) tag → tag.clean ≡ 0 → tag.generation ≡ 2 ^ 62 - 1 → (why : Cause) (place : ℕ) → load.Bad Spent 0 ≡ load.Bad why place
      → FailsVolume (record { count = blocks; bytes = d.bytes }) why place
  fails_spent good off last why place same =
      let cause_is : Spent ≡ why = cc in
      let place_is : 0 ≡ place = cc in
      subst (λ (k : Cause). FailsVolume (record { count = blocks; bytes = d.bytes }) k place) cause_is
      (entries_of d.bytes m.records, tag, is.tagged, reads, good, off, last, sym place_is)
