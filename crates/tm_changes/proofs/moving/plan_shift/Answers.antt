use Rattle.std.proofs.Common.{◌≡◌, ℕ, ◌+◌, ◌-◌, ◌^◌, ◌≤◌, ◌∷◌, ◌++◌, List, length, sym, ◌∙◌, ap, subst, arith}
use Rattle.tm_base.specs.Paths.{Names}
use Rattle.tm_base.specs.declared.refused.Refused.TheVariants.{TooDeep}
use Rattle.tm_index.specs.Folders.{numbers_in}
use Rattle.tm_tree.specs.declared.change.Change.TheVariants.{Mv}
use Rattle.tm_tree.specs.Changes.{ids_spent}
use Rattle.tm_tree.specs.Refusing.{first_refused, needs_moment}
use Rattle.tm_tree.specs.Touches.{numbers}
use Rattle.tm_changes.specs.Changes.{changed}
use Rattle.tm_changes.specs.Depths.{Reaches}
use Rattle.tm_changes.specs.Fitting.{staged_len}
use Rattle.tm_volume.specs.Seen.{stored_on, tree_on, volume_on}
use Rattle.tm_changes.proofs.Emptying.{on_index}
use Rattle.tm_changes.proofs.Lacking.{no_moment, spent, drawn}
use Rattle.tm_changes.proofs.Relocating.{IsShift, shift_left, draws, movable, shift_changed}
use Rattle.tm_changes.proofs.Shifting.{move_edit, move_no_data, move_good, move_stored}
use Rattle.tm_changes.proofs.moving.plan_shift.Goals as goal

pub returns-in-Ok-true : goal.returns-in-Ok-true
returns-in-Ok-true c =
    let m = c.args.volume.now in
    let a = c.args.from.now in
    let b = c.args.to.now in
    let n = c.args.number in
    let deep = c.in-Ok-true.field-0 in
    let n0 = numbers_in c.numbers.result.now in
    let is : IsShift m n0 a b n c.args.folder c.args.change.now deep = record {
      on = on_index m c.rules.ensures.shelved n0 c.numbers.ensures;
      change = c.requires.change;
      found = c.requires.found;
      into = c.requires.into;
      none = c.requires.none;
      apart = c.requires.apart;
      few = omega (arith, c.names.ensures.short, ap length c.names.ensures.names);
      reach = subst (λ (q : Names). Reaches n0 n (65 - length q) deep) c.names.ensures.names c.in-Ok-true.ensures;
    } in
    λ bytes good. shift_left m n0 a b n c.args.folder c.args.change.now deep is c.args.moment bytes
    ∙ ap (λ d. first_refused ((d, TooDeep) ∷ needs_moment c.args.moment ++ ids_spent (volume_on m bytes).contents (numbers (tree_on m bytes) (Mv a b)))) c.in-Ok-true.field-0-test

pub returns-in_default : goal.returns-in_default
returns-in_default c =
    let m = c.args.volume.now in
    let a = c.args.from.now in
    let b = c.args.to.now in
    let n = c.args.number in
    let deep = c.in-Ok-false.field-0 in
    let n0 = numbers_in c.numbers.result.now in
    let is : IsShift m n0 a b n c.args.folder c.args.change.now deep = record {
      on = on_index m c.rules.ensures.shelved n0 c.numbers.ensures;
      change = c.requires.change;
      found = c.requires.found;
      into = c.requires.into;
      none = c.requires.none;
      apart = c.requires.apart;
      few = omega (arith, c.names.ensures.short, ap length c.names.ensures.names);
      reach = subst (λ (q : Names). Reaches n0 n (65 - length q) deep) c.names.ensures.names c.in-Ok-false.ensures;
    } in
    λ bytes good. shift_left m n0 a b n c.args.folder c.args.change.now deep is c.args.moment bytes
    ∙ ap (λ d. first_refused ((d, TooDeep) ∷ needs_moment c.args.moment ++ ids_spent (volume_on m bytes).contents (numbers (tree_on m bytes) (Mv a b)))) c.in-Ok-false.field-0-test
    ∙ no_moment (ids_spent (volume_on m bytes).contents (numbers (tree_on m bytes) (Mv a b))) c.args.moment c.in_default.is

pub returns-in_default-next_after : goal.returns-in_default-next_after
returns-in_default-next_after c =
    let m = c.args.volume.now in
    let a = c.args.from.now in
    let b = c.args.to.now in
    let n = c.args.number in
    let deep = c.in-Ok-false.field-0 in
    let n0 = numbers_in c.numbers.result.now in
    let is : IsShift m n0 a b n c.args.folder c.args.change.now deep = record {
      on = on_index m c.rules.ensures.shelved n0 c.numbers.ensures;
      change = c.requires.change;
      found = c.requires.found;
      into = c.requires.into;
      none = c.requires.none;
      apart = c.requires.apart;
      few = omega (arith, c.names.ensures.short, ap length c.names.ensures.names);
      reach = subst (λ (q : Names). Reaches n0 n (65 - length q) deep) c.names.ensures.names c.in-Ok-false.ensures;
    } in
    let kind = (λ (bytes : ℕ → List ℕ). sym (c.is_folder.ensures bytes)) in
    let draw = λ (bytes : ℕ → List ℕ). draws m n0 a b n c.args.folder c.args.change.now deep is c.is_folder.result kind bytes ∙ sym c.drawn_by_move-count.ensures.count in
    λ bytes good. shift_left m n0 a b n c.args.folder c.args.change.now deep is c.args.moment bytes
    ∙ ap (λ d. first_refused ((d, TooDeep) ∷ needs_moment c.args.moment ++ ids_spent (volume_on m bytes).contents (numbers (tree_on m bytes) (Mv a b)))) c.in-Ok-false.field-0-test
    ∙ spent (volume_on m bytes).contents (numbers (tree_on m bytes) (Mv a b)) c.args.moment c.in-Some.moment c.in-Some.is (omega (arith, draw bytes, c.in_default-next_after.ensures.none))

pub movement-requires : goal.movement-requires
movement-requires c =
    let m = c.args.volume.now in
    let a = c.args.from.now in
    let b = c.args.to.now in
    let n = c.args.number in
    let deep = c.in-Ok-false.field-0 in
    let n0 = numbers_in c.numbers.result.now in
    let is : IsShift m n0 a b n c.args.folder c.args.change.now deep = record {
      on = on_index m c.rules.ensures.shelved n0 c.numbers.ensures;
      change = c.requires.change;
      found = c.requires.found;
      into = c.requires.into;
      none = c.requires.none;
      apart = c.requires.apart;
      few = omega (arith, c.names.ensures.short, ap length c.names.ensures.names);
      reach = subst (λ (q : Names). Reaches n0 n (65 - length q) deep) c.names.ensures.names c.in-Ok-false.ensures;
    } in
    movable m n0 a b n c.args.folder c.args.change.now deep is c.in-Ok-false.field-0-test

pub returns-in-Ok : goal.returns-in-Ok
returns-in-Ok c =
    let m = c.args.volume.now in
    let a = c.args.from.now in
    let b = c.args.to.now in
    let n = c.args.number in
    let deep = c.in-Ok-false.field-0 in
    let n0 = numbers_in c.numbers.result.now in
    let is : IsShift m n0 a b n c.args.folder c.args.change.now deep = record {
      on = on_index m c.rules.ensures.shelved n0 c.numbers.ensures;
      change = c.requires.change;
      found = c.requires.found;
      into = c.requires.into;
      none = c.requires.none;
      apart = c.requires.apart;
      few = omega (arith, c.names.ensures.short, ap length c.names.ensures.names);
      reach = subst (λ (q : Names). Reaches n0 n (65 - length q) deep) c.names.ensures.names c.in-Ok-false.ensures;
    } in
    let kind = (λ (bytes : ℕ → List ℕ). sym (c.is_folder.ensures bytes)) in
    let draw = λ (bytes : ℕ → List ℕ). draws m n0 a b n c.args.folder c.args.change.now deep is c.is_folder.result kind bytes ∙ sym c.drawn_by_move-count.ensures.count in
    let k = c.args.folder in
    let can = movable m n0 a b n k c.args.change.now deep is c.in-Ok-false.field-0-test in
    let moment = c.in-Some.moment in
    let e = c.in-Ok.edit in
    let shifts = c.in-Ok.ensures.shifts in
    let low = c.in-Ok.ensures.low in
    let count = c.drawn_by_move-count.result in
    let got = c.in-Some-next_after.ensures.some in
    let next : ℕ = m.tag.next + count in
    let next_is : e.next ≡ next = c.in-Ok.ensures.next ∙ got.0 in
    let least : m.tag.next ≤ next = omega arith in
    let most : next ≤ 2 ^ 62 = omega (arith, got.0, got.1) in
    record {
      edit = move_edit m n0 is.on a b n k moment next can e shifts low next_is least most;
      no_data = move_no_data m n0 is.on a b n k moment next can e shifts low next_is least most;
      unstaged = λ bytes. ap (staged_len (volume_on m bytes).contents) c.requires.change;
      passes = λ bytes good. shift_left m n0 a b n c.args.folder c.args.change.now deep is c.args.moment bytes
          ∙ ap (λ d. first_refused ((d, TooDeep) ∷ needs_moment c.args.moment ++ ids_spent (volume_on m bytes).contents (numbers (tree_on m bytes) (Mv a b)))) c.in-Ok-false.field-0-test
          ∙ drawn (volume_on m bytes).contents (numbers (tree_on m bytes) (Mv a b)) c.args.moment moment c.in-Some.is (omega (arith, draw bytes, most));
      good = move_good m n0 is.on a b n k moment next can e shifts low next_is least most;
      stored = λ bytes. move_stored m n0 is.on a b n k moment next can e shifts low next_is least most bytes
          ∙ shift_changed m n0 a b n k c.args.change.now deep is bytes moment count (draw bytes) ∙ ap (changed (stored_on m bytes) c.args.change.now) (sym c.in-Some.is);
    }
