-- What a side of a store reads as, and what a stop leaves of it.
use Rattle.std.proofs.Common.{◌≡◌, ◌⊎◌, ⊎_elim, inl, inr, ℕ, ◌<◌, ◌≤◌, List, Some, None, refl, sym, ◌∙◌, ap, subst, arith}
use Rattle.tm_gate.specs.Load.{IsUnformatted}
use Rattle.tm_gate.specs.Selector.{named_by}
use Rattle.tm_gate.specs.Slot.{HasMagic}
use Rattle.tm_image.specs.Blank.{LacksMagic}
use Rattle.tm_image.specs.Laws.{ReadsOrLacks}
use Rattle.tm_world.specs.Disk.{Image}
use Rattle.tm_world.specs.declared.world.Side.TheVariants.{Store}
use Rattle.tm_store_records.specs.Laws.{OneStoreReads}
use Rattle.tm_store_records.specs.States.{StoredStore, StoreReads}
use Rattle.tm_store_records.specs.Tags.{tag_of}
use Rattle.tm_store.specs.Sides.{IsUnformattedStore, OneStoreSide, StoreBlankLeaves, StoreBlankMayBeFormatted, NoneOrStore}

-- ---- a disk without an image

pub blank_leaves : StoreBlankLeaves
blank_leaves disk blank image left = ⊎_elim
    (λ (few : disk.count < 3). inl (omega (arith, few, left.count)))
    (λ (un : (named : ℕ) × IsUnformatted disk.bytes named).
    let same : (b : ℕ) → image.bytes b ≡ disk.bytes b = λ b. left.stable b (blank.stable b) in
    inr (un.0, record { selected = ap named_by (same 0) ∙ (un.1).selected; lacks = subst (λ (slot : List ℕ). ¬ HasMagic slot) (sym (same un.0)) (un.1).lacks }))
    blank.unformatted

-- the slot that is named lacks the magic
pub lacks_now : (count : ℕ) (bytes : ℕ → List ℕ) → 3 ≤ count → (count < 3) ⊎ ((named : ℕ) × IsUnformatted bytes named) → LacksMagic bytes
lacks_now count bytes many un = ⊎_elim
    (λ (few : count < 3). absurd (omega (arith, few, many)))
    (λ (n : (named : ℕ) × IsUnformatted bytes named). subst (λ (k : ℕ). ¬ HasMagic (bytes k)) (sym (n.1).selected) (n.1).lacks)
    un

-- and so the image is unformatted
pub lacking : (image : Image) → LacksMagic image.bytes → IsUnformattedStore image
lacking image lacks = inr (named_by (image.bytes 0), record { selected = refl; lacks = lacks })

pub may_be_formatted : StoreBlankMayBeFormatted
may_be_formatted disk blank many = record {
  lacks = lacks_now disk.count disk.bytes many blank.unformatted;
  selector_stable = blank.stable 0;
  slot_stable = blank.stable (named_by (disk.bytes 0));
}

pub none_or : NoneOrStore
none_or s disk leaves image left = ⊎_elim
    (λ (lacks : LacksMagic image.bytes). inl (lacking image lacks))
    (λ (reads : StoreReads image s). inr reads)
    (leaves image left)

-- ---- one store

read_and_not : ReadsOrLacks → (image : Image) (s : StoredStore) → IsUnformattedStore image → StoreReads image s → ⊥
read_and_not formatted image s not_formatted reads = ⊎_elim
    (λ (few : image.count < 3). let r = reads.reads in omega (arith, few, r.holds.count, r.good.room))
    (λ (un : (named : ℕ) × IsUnformatted image.bytes named).
    formatted Store reads.entries (tag_of s.running s.store.number) image reads.reads
    (subst (λ (n : ℕ). ¬ HasMagic (image.bytes n)) (sym (un.1).selected) (un.1).lacks))
    not_formatted

pub one_side : OneStoreReads → ReadsOrLacks → OneStoreSide
one_side one formatted image None None few a b = refl
one_side one formatted image None (Some t) few a b = absurd (read_and_not formatted image t a b)
one_side one formatted image (Some s) None few a b = absurd (read_and_not formatted image s b a)
one_side one formatted image (Some s) (Some t) few a b = ap (λ x. Some x) (one image s t few a b)
