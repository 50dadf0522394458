use Rattle.std.proofs.Common.{◌≡◌, ℕ, ◌+◌, ◌^◌, ◌≤◌, sym, ◌∙◌, ap, arith}
use Rattle.tm_tree.specs.Changes.{ids_spent}
use Rattle.tm_changes.specs.Changes.{changed}
use Rattle.tm_volume.specs.Seen.{stored_on, volume_on}
use Rattle.tm_changes.proofs.Results.{on_shelf_of}
use Rattle.tm_changes.proofs.Lacking.{no_moment, drawn}
use Rattle.tm_changes.proofs.RemovalEdits.{removal_edit, removal_no_data, removal_good, removal_stored, removal_unstaged, removal_changed}
use Rattle.tm_changes.proofs.removing.plan_removal.Goals as goal

pub returns-in_default : goal.returns-in_default
returns-in_default c = λ bytes good. c.requires.tests bytes ∙ no_moment (ids_spent (volume_on c.args.volume.now bytes).contents 1) c.args.moment c.in_default.is

pub returns : goal.returns
returns c =
    let m = c.args.volume.now in
    let s = c.rules.ensures.shelved in
    let on = on_shelf_of m s in
    let p = c.args.path.now in
    let n = c.args.number in
    let moment = c.in-Some.moment in
    let e = c.in_ok-removal.field-0 in
    let is = c.in_ok-removal.ensures.removes in
    let low = c.in_ok-removal.ensures.low in
    let drew = c.in-Some-next_after.ensures.some in
    let next : ℕ = m.tag.next + 1 in
    let next_is : e.next ≡ next = c.in_ok-removal.ensures.next ∙ drew.0 in
    let least : m.tag.next ≤ next = omega arith in
    let most : next ≤ 2 ^ 62 = omega (arith, drew.0, drew.1) in
    record {
      edit = removal_edit m s.numbers on p n moment next c.requires.loose e is low next_is least most;
      no_data = removal_no_data m s.numbers on p n moment next c.requires.loose e is low next_is least most;
      unstaged = λ bytes. removal_unstaged m bytes c.args.change.now p c.requires.removal;
      passes = λ bytes good. c.requires.tests bytes ∙ drawn (volume_on m bytes).contents 1 c.args.moment moment c.in-Some.is most;
      good = removal_good m s.numbers on p n moment next c.requires.loose e is low next_is least most;
      stored = λ bytes. removal_stored m s.numbers on p n moment next c.requires.loose e is low next_is least most bytes
          ∙ removal_changed m bytes c.args.change.now p moment c.requires.removal ∙ ap (changed (stored_on m bytes) c.args.change.now) (sym c.in-Some.is);
    }
