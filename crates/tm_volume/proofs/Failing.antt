-- Of the checks of a volume's image one fails, and none of an image that reads as something.
use Rattle.std.proofs.Common.{◌≡◌, ◌⊎◌, ⊎_elim, inl, inr, ℕ, ◌==◌, ◌^◌, ◌-◌, ◌<◌, ◌≤◌, Some, None, refl, sym, ◌∙◌, ap, subst, arith}
use Rattle.std.proofs.lemmas.Bool.{cases_lt}
use Rattle.tm_gate.specs.Load.{IsUnformatted}
use Rattle.tm_gate.specs.Slot.{HasMagic}
use Rattle.tm_image.specs.Blank.{LacksMagic}
use Rattle.tm_image.specs.Laws.{FailsOrLacks, OneFailure, OneReading, ReadsOrFails, ReadsOrLacks}
use Rattle.tm_image.specs.Load.{Fails}
use Rattle.tm_image.specs.Reads.{Entries, ReadsAsTable}
use Rattle.tm_world.specs.Disk.{Image}
use Rattle.tm_world.specs.declared.cause.Cause.{Cause}
use Rattle.tm_world.specs.declared.cause.Cause.TheVariants.{Slot, Chain, Table, Pages, Block, Room, Record, Spent}
use Rattle.tm_world.specs.declared.world.Side.TheVariants.{Volume as OfVolume}
use Rattle.tm_volume.specs.Answers.{FailsVolume, IsSpent, OneVolumeFailure, ReadsOrFailsVolume}
use Rattle.tm_volume.specs.Reads.{VolumeReads, IsUnformattedImage, tag_bytes}
use Rattle.tm_volume_records.specs.Rules.{Tag, IsTagged, IsGoodVolume, IsLeastBad}
use Rattle.tm_volume.specs.Stored.{StoredVolume}
use Rattle.tm_volume.proofs.Leaving.{same_tag}
use Rattle.tm_base.specs.Limits.{max_blocks}

-- what fails of an image that stands for entries and a tag
IsLate : Entries → Tag → Cause → ℕ → Type 0
IsLate entries tag cause place =
    ((cause ≡ Record) × IsLeastBad entries tag place) ⊎ ((cause ≡ Spent) × IsGoodVolume entries tag × (tag.clean ≡ 0) × (tag.generation ≡ 2 ^ 62 - 1) × (place ≡ 0))

record FailsLate (image : Image) (cause : Cause) (place : ℕ) : Type 0 where
  entries : Entries
  tag : Tag
  tagged : IsTagged tag
  reads : ReadsAsTable OfVolume entries (tag_bytes tag) image
  late : IsLate entries tag cause place

split : (image : Image) (cause : Cause) (place : ℕ) → FailsVolume image cause place → Fails OfVolume image.count image.bytes cause place ⊎ FailsLate image cause place
unfolding IsLate
split image Slot place f = inl f
split image Chain place f = inl f
split image Table place f = inl f
split image Pages place f = inl f
split image Block place f = inl f
split image Room place f = inl f
split image Record place f = inr (record { entries = f.0; tag = f.1; tagged = f.2; reads = f.3; late = inl (refl, f.4) })
split image Spent place f = inr (record { entries = f.0; tag = f.1; tagged = f.2; reads = f.3; late = inr (refl, f.4, f.5, f.6, f.7) })

least_once : (entries : Entries) (tag : Tag) (place place2 : ℕ) → IsLeastBad entries tag place → IsLeastBad entries tag place2 → place2 ≡ place
least_once entries tag place place2 f g = ⊎_elim
    (λ (lt : place < place2). absurd (f.bad (g.below place lt)))
    (λ (le : place2 ≤ place). ⊎_elim
    (λ (lt : place2 < place). absurd (g.bad (f.below place2 lt)))
    (λ (ge : place ≤ place2). omega (arith, le, ge))
    (cases_lt place2 place))
    (cases_lt place place2)

late_once : (entries : Entries) (tag : Tag) (cause cause2 : Cause) (place place2 : ℕ) → IsLate entries tag cause place → IsLate entries tag cause2 place2 → (cause2 ≡ cause) × (place2 ≡ place)
unfolding IsLate
late_once entries tag cause cause2 place place2 (inl f) (inl g) = (g.0 ∙ sym f.0, least_once entries tag place place2 f.1 g.1)
late_once entries tag cause cause2 place place2 (inl f) (inr g) = absurd ((f.1).bad (g.1 place))
late_once entries tag cause cause2 place place2 (inr f) (inl g) = absurd ((g.1).bad (f.1 place2))
late_once entries tag cause cause2 place place2 (inr f) (inr g) = (g.0 ∙ sym f.0, g.4 ∙ sym f.4)

module _ (reading : OneReading) (image : Image) (few : image.count ≤ max_blocks) where
  moved : (entries entries2 : Entries) (tag tag2 : Tag) (cause : Cause) (place : ℕ) → IsTagged tag → IsTagged tag2
      → ReadsAsTable OfVolume entries (tag_bytes tag) image → ReadsAsTable OfVolume entries2 (tag_bytes tag2) image → IsLate entries2 tag2 cause place → IsLate entries tag cause place
  moved entries entries2 tag tag2 cause place bound bound2 reads reads2 late =
      let both = reading OfVolume entries entries2 (tag_bytes tag) (tag_bytes tag2) image few reads reads2 in
      subst (λ (t : Tag). IsLate entries t cause place) (same_tag tag2 tag bound2 bound both.1) (subst (λ (xs : Entries). IsLate xs tag2 cause place) both.0 late)

  both_late : (cause cause2 : Cause) (place place2 : ℕ) → FailsLate image cause place → FailsLate image cause2 place2 → (cause2 ≡ cause) × (place2 ≡ place)
  both_late cause cause2 place place2 f g =
      late_once f.entries f.tag cause cause2 place place2 f.late (moved f.entries g.entries f.tag g.tag cause2 place2 f.tagged g.tagged f.reads g.reads g.late)

  early_or_late : ReadsOrFails → {P : Type 0} (cause cause2 : Cause) (place place2 : ℕ) → Fails OfVolume image.count image.bytes cause place → FailsLate image cause2 place2 → P
  early_or_late whole cause cause2 place place2 f g = absurd (whole OfVolume g.entries (tag_bytes g.tag) image cause place few g.reads f)

  one_failure : OneFailure → ReadsOrFails → (cause cause2 : Cause) (place place2 : ℕ)
      → Fails OfVolume image.count image.bytes cause place ⊎ FailsLate image cause place → Fails OfVolume image.count image.bytes cause2 place2 ⊎ FailsLate image cause2 place2
      → (cause2 ≡ cause) × (place2 ≡ place)
  one_failure failure whole cause cause2 place place2 (inl f) (inl g) = failure OfVolume image.count image.bytes cause cause2 place place2 few f g
  one_failure failure whole cause cause2 place place2 (inl f) (inr g) = early_or_late whole cause cause2 place place2 f g
  one_failure failure whole cause cause2 place place2 (inr f) (inl g) = early_or_late whole cause2 cause place2 place g f
  one_failure failure whole cause cause2 place place2 (inr f) (inr g) = both_late cause cause2 place place2 f g

  spent_late : (s : StoredVolume) (cause : Cause) (place : ℕ) (r : VolumeReads image s) → IsLate r.entries r.tag cause place → (cause ≡ Spent) × IsSpent (Some s)
  unfolding IsLate
  spent_late s cause place r (inl f) = absurd ((f.1).bad (r.good place))
  spent_late s cause place r (inr f) = (
    f.0,
    record {
      volume = s;
      is = refl;
      unclean = (r.is).clean ∙ ap (λ (n : ℕ). n == 1) f.2;
      last = (r.is).generation ∙ f.3;
    },
  )

  read_whole : ReadsOrFails → (s : StoredVolume) (cause : Cause) (place : ℕ) → VolumeReads image s → Fails OfVolume image.count image.bytes cause place ⊎ FailsLate image cause place
      → (cause ≡ Spent) × IsSpent (Some s)
  read_whole whole s cause place r (inl f) = absurd (whole OfVolume r.entries (tag_bytes r.tag) image cause place few r.reads f)
  read_whole whole s cause place r (inr f) = spent_late s cause place r (moved r.entries f.entries r.tag f.tag cause place r.tagged f.tagged r.reads f.reads f.late)

lacks_now : (image : Image) → 3 ≤ image.count → IsUnformattedImage image → LacksMagic image.bytes
lacks_now image many un = ⊎_elim
    (λ (few : image.count < 3). absurd (omega (arith, few, many)))
    (λ (n : (named : ℕ) × IsUnformatted image.bytes named). subst (λ (k : ℕ). ¬ HasMagic (image.bytes k)) (sym (n.1).selected) (n.1).lacks)
    un

unread : FailsOrLacks → ReadsOrLacks → {P : Type 0} (image : Image) (cause : Cause) (place : ℕ) → LacksMagic image.bytes
    → Fails OfVolume image.count image.bytes cause place ⊎ FailsLate image cause place → P
unread checked formatted image cause place lacks (inl f) = absurd (checked OfVolume image.count image.bytes cause place f lacks)
unread checked formatted image cause place lacks (inr f) = absurd (formatted OfVolume f.entries (tag_bytes f.tag) image f.reads lacks)

pub one_volume_failure : OneReading → OneFailure → ReadsOrFails → OneVolumeFailure
one_volume_failure reading failure whole image cause cause2 place place2 few f g =
    one_failure reading image few failure whole cause cause2 place place2 (split image cause place f) (split image cause2 place2 g)

pub reads_or_fails : OneReading → ReadsOrFails → FailsOrLacks → ReadsOrLacks → ReadsOrFailsVolume
reads_or_fails reading whole checked formatted image None cause place many few reads f =
    unread checked formatted image cause place (lacks_now image many reads) (split image cause place f)
reads_or_fails reading whole checked formatted image (Some s) cause place many few reads f =
    read_whole reading image few whole s cause place reads (split image cause place f)
