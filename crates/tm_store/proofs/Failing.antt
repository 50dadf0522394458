-- Of the checks of a store's image one fails, and none of an image that reads as something.
use Rattle.std.proofs.Common.{◌≡◌, ◌⊎◌, ⊎_elim, inl, inr, ℕ, ◌<◌, ◌≤◌, Option, Some, None, refl, sym, ◌∙◌, subst, arith}
use Rattle.std.proofs.lemmas.Bool.{cases_lt}
use Rattle.tm_base.specs.Limits.{max_blocks}
use Rattle.tm_image.specs.Blank.{LacksMagic}
use Rattle.tm_image.specs.Laws as image_laws
use Rattle.tm_image.specs.Laws.{FailsOrLacks, OneFailure, OneReading, ReadsOrLacks}
use Rattle.tm_image.specs.Load.{Fails}
use Rattle.tm_image.specs.Reads.{Entries, ReadsAsTable}
use Rattle.tm_world.specs.Disk.{Image}
use Rattle.tm_world.specs.declared.cause.Cause.{Cause}
use Rattle.tm_world.specs.declared.cause.Cause.TheVariants.{Slot, Chain, Table, Pages, Block, Room, Record, Spent}
use Rattle.tm_world.specs.declared.world.Side.TheVariants.{Store}
use Rattle.tm_store_records.specs.Heads.{RecordHeads, heads_in}
use Rattle.tm_store_records.specs.Rules.{IsLeastBadKey}
use Rattle.tm_store_records.specs.States.{StoredStore, StoreFails, StoreReads, ReadsAsBadStore}
use Rattle.tm_store_records.specs.Tags.{tag_of, FitsTag}
use Rattle.tm_store_records.proofs.Standing.{one_tag}
use Rattle.tm_store.specs.Sides.{OneStoreFailure, StoreReadsOrFails}
use Rattle.tm_store.proofs.Siding.{lacks_now}

-- a step of the image's reading fails, or a record's
record IsLate (image : Image) (cause : Cause) (place : ℕ) : Type 0 where
  cause_is : cause ≡ Record
  bad : ReadsAsBadStore image place

split : (image : Image) (cause : Cause) (place : ℕ) → StoreFails image cause place → Fails Store image.count image.bytes cause place ⊎ IsLate image cause place
split image Slot place f = inl f
split image Chain place f = inl f
split image Table place f = inl f
split image Pages place f = absurd f
split image Block place f = inl f
split image Room place f = inl f
split image Record place f = inr (record { cause_is = refl; bad = f })
split image Spent place f = absurd f

least_once : (heads : RecordHeads) (number place place2 : ℕ) → IsLeastBadKey heads number place → IsLeastBadKey heads number place2 → place2 ≡ place
least_once heads number place place2 f g = ⊎_elim
    (λ (lt : place < place2). absurd (f.bad (g.below place lt)))
    (λ (le : place2 ≤ place). ⊎_elim
    (λ (lt : place2 < place). absurd (g.bad (f.below place2 lt)))
    (λ (ge : place ≤ place2). omega (arith, le, ge))
    (cases_lt place2 place))
    (cases_lt place place2)

module _ (reading : OneReading) (image : Image) (few : image.count ≤ max_blocks) where
  -- the key that is wrong, by other entries that the image stands for
  moved : (entries : Entries) (running : Option ℕ) (number place : ℕ) → FitsTag running number → ReadsAsTable Store entries (tag_of running number) image → ReadsAsBadStore image place
      → IsLeastBadKey (heads_in entries) number place
  moved entries running number place fits reads f =
      let both = reading Store entries f.entries (tag_of running number) (tag_of f.running f.number) image few reads f.reads in
      let tags = one_tag f.running running f.number number f.fits fits both.1 in
      subst (λ (n : ℕ). IsLeastBadKey (heads_in entries) n place) tags.1 (subst (λ (es : Entries). IsLeastBadKey (heads_in es) f.number place) both.0 f.least)

  both_late : (cause cause2 : Cause) (place place2 : ℕ) → IsLate image cause place → IsLate image cause2 place2 → (cause2 ≡ cause) × (place2 ≡ place)
  both_late cause cause2 place place2 f g =
      let bad = f.bad in (
        g.cause_is ∙ sym f.cause_is,
        least_once (heads_in bad.entries) bad.number place place2 bad.least (moved bad.entries bad.running bad.number place2 bad.fits bad.reads g.bad),
      )

  early_or_late : image_laws.ReadsOrFails → {P : Type 0} (cause cause2 : Cause) (place place2 : ℕ) → Fails Store image.count image.bytes cause place → IsLate image cause2 place2 → P
  early_or_late whole cause cause2 place place2 f g =
      let bad = g.bad in
      absurd (whole Store bad.entries (tag_of bad.running bad.number) image cause place few bad.reads f)

  one_failure : OneFailure → image_laws.ReadsOrFails → (cause cause2 : Cause) (place place2 : ℕ)
      → Fails Store image.count image.bytes cause place ⊎ IsLate image cause place → Fails Store image.count image.bytes cause2 place2 ⊎ IsLate image cause2 place2
      → (cause2 ≡ cause) × (place2 ≡ place)
  one_failure failure whole cause cause2 place place2 (inl f) (inl g) = failure Store image.count image.bytes cause cause2 place place2 few f g
  one_failure failure whole cause cause2 place place2 (inl f) (inr g) = early_or_late whole cause cause2 place place2 f g
  one_failure failure whole cause cause2 place place2 (inr f) (inl g) = early_or_late whole cause2 cause place2 place g f
  one_failure failure whole cause cause2 place place2 (inr f) (inr g) = both_late cause cause2 place place2 f g

  read_whole : image_laws.ReadsOrFails → (s : StoredStore) (cause : Cause) (place : ℕ) → StoreReads image s → Fails Store image.count image.bytes cause place ⊎ IsLate image cause place → ⊥
  read_whole whole s cause place r (inl f) = whole Store r.entries (tag_of s.running s.store.number) image cause place few r.reads f
  read_whole whole s cause place r (inr f) = (moved r.entries s.running s.store.number place r.fits r.reads f.bad).bad ((r.is).good place)

unread : FailsOrLacks → ReadsOrLacks → (image : Image) (cause : Cause) (place : ℕ) → LacksMagic image.bytes → Fails Store image.count image.bytes cause place ⊎ IsLate image cause place → ⊥
unread checked formatted image cause place lacks (inl f) = checked Store image.count image.bytes cause place f lacks
unread checked formatted image cause place lacks (inr f) = let bad = f.bad in formatted Store bad.entries (tag_of bad.running bad.number) image bad.reads lacks

pub one_store_failure : OneReading → OneFailure → image_laws.ReadsOrFails → OneStoreFailure
one_store_failure reading failure whole image cause cause2 place place2 few f g =
    one_failure reading image few failure whole cause cause2 place place2 (split image cause place f) (split image cause2 place2 g)

pub reads_or_fails : OneReading → image_laws.ReadsOrFails → FailsOrLacks → ReadsOrLacks → StoreReadsOrFails
reads_or_fails reading whole checked formatted image None cause place many few reads f =
    unread checked formatted image cause place (lacks_now image.count image.bytes many reads) (split image cause place f)
reads_or_fails reading whole checked formatted image (Some s) cause place many few reads f =
    read_whole reading image few whole s cause place reads (split image cause place f)
