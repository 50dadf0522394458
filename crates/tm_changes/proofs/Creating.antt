-- The edit of a new item without data makes it.
use Rattle.std.proofs.Common.{◌≡◌, ℕ, ◌+◌, ◌≤◌, List, [], length, refl, sym, ap, ◌∙◌, subst, Option, Err, arith}
use Rattle.tm_base.specs.Days.{last_moment}
use Rattle.tm_base.specs.Paths.{Names}
use Rattle.tm_base.specs.declared.refused.LineFault.{LineFault}
use Rattle.tm_base.specs.declared.refused.LineFault.TheVariants.{Refused as RefusedFor, Fault, Memory}
use Rattle.tm_records.specs.declared.record.Body.TheVariants.{Empty}
use Rattle.tm_records.specs.declared.record.Put.{Put}
use Rattle.tm_tree.specs.Contents.{Contents}
use Rattle.tm_tree.specs.Trees.{last_of}
use Rattle.tm_volume.specs.declared.edit.Edit.{Edit}
use Rattle.tm_changes.specs.declared.creation.NewItem.{NewItem}
use Rattle.tm_changes.specs.declared.creation.NewItem.TheVariants as new
use Rattle.tm_changes.specs.declared.creation.Creation.{Creation}
use Rattle.tm_changes.specs.Changes.{changed}
use Rattle.tm_volume.specs.Edits.{after}
use Rattle.tm_changes.specs.Placing.{placed_stored, MakesPlace}
use Rattle.tm_changes.specs.Creations.{making, IsCreation, FindsCreation}
use Rattle.tm_volume.specs.Seen.{IsShelved}
use Rattle.tm_changes.specs.Plans.{BringNone, Plans, Writes}
use Rattle.tm_volume_records.specs.Records.{item_with}
use Rattle.tm_changes.specs.Fitting.{staged_len}
use Rattle.tm_volume.specs.Seen.{Seen, items_on, stored_on, volume_on}
use Rattle.tm_volume.specs.FreeNumbers.{IsUnused}
use Rattle.tm_changes.proofs.Results.{on_shelf_of}
use Rattle.tm_changes.proofs.Making.{IsAsked, is_edit, is_good, stored_is}
use Rattle.tm_changes.proofs.Planning.{makes_change}
use Rattle.tm_volume.proofs.Rooms.{head_record}
use Rattle.tm_volume.proofs.Counting.{known_on}
use Rattle.tm_base.specs.Limits.{max_names}

-- it stages nothing
stages_none : (v : Contents) (p : Names) (item : NewItem) → staged_len v (making p item) ≡ 0
stages_none v p new.Folder = refl
stages_none v p (new.Link target) = refl

-- a plan that can't be made
pub no_plan : (m : Seen) (p : Names) (item : NewItem) (moment : Option ℕ) (why : LineFault) → FindsCreation m p item moment (Err why) → Plans m (making p item) moment (Err why)
no_plan m p item moment (RefusedFor why) h = λ bytes good. h bytes good.good
no_plan m p item moment (Fault side) h = h
no_plan m p item moment Memory h = tt

module _ (m : Seen) (s : IsShelved m) (p : Names) (item : NewItem) (moment : Option ℕ) (plan : Creation) (ready : IsCreation m p item moment plan) (n : ℕ) (e : Edit)
    (makes : MakesPlace m e n plan.folder plan.date plan.row (last_of p) Empty) (next_is : e.next ≡ plan.next) (short : length p ≤ max_names) (low : plan.date ≤ last_moment)
    (unused : (bytes : ℕ → List ℕ) → IsUnused (items_on m bytes) n) where
  drawn : plan.next ≡ m.tag.next + 2
  drawn = ap (λ (q : Creation). q.next) ready.is

  asked : IsAsked m e p n plan.folder plan.date plan.next plan.row
  asked = record {
    makes = makes;
    next_is = next_is;
    new = ready.row;
    below = ready.below;
    short = short;
    low = low;
    unused = unused;
    into = ready.into;
    none = ready.none;
    next_least = omega (arith, drawn);
    next_most = ready.drawn;
  }

  -- the volume with it is the volume changed
  made_is : (bytes : ℕ → List ℕ) → stored_on (after m e) bytes ≡ changed (stored_on m bytes) (making p item) moment
  made_is bytes =
      let is = ready.is in
      let dated = ready.dated in
      stored_is m s.numbers (on_shelf_of m s) e p n plan.folder plan.date plan.next plan.row asked bytes
      ∙ (λ i. placed_stored (stored_on m bytes) p plan.date (item_with (is i).row.body []) (is i).next)
      ∙ makes_change (stored_on m bytes) p item plan.date
      ∙ (λ i. changed (stored_on m bytes) (making p item) (sym dated i))

  pub new_writes : Writes m (making p item) moment e
  new_writes = record {
    edit = is_edit m s.numbers (on_shelf_of m s) e p n plan.folder plan.date plan.next plan.row asked;
    no_data = subst (λ (ps : List Put). BringNone ps) (sym makes.placing.put) (refl, (refl, tt));
    unstaged = λ bytes. stages_none (volume_on m bytes).contents p item;
    passes = λ bytes good. ready.passes bytes good.good;
    good = λ bytes good.
        let head = head_record m bytes (known_on m s.numbers s.shelf s.image bytes good.good) in
        is_good m s.numbers (on_shelf_of m s) e p n plan.folder plan.date plan.next plan.row asked bytes good.good good.fixed head.0 head.1;
    stored = made_is;
  }
