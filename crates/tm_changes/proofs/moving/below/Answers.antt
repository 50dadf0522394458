use Rattle.std.proofs.Common.{ℕ, List, [], sym, ◌∙◌, subst, append-nil}
use Rattle.tm_index.specs.Folders.{numbers_in}
use Rattle.tm_changes.specs.Depths.{AreBelow}
use Rattle.tm_changes.proofs.Deepening.{below_none, below_turn, below_end}
use Rattle.tm_changes.proofs.moving.below.Goals as goal
use Rattle.tm_changes.proofs.moving.below.Goals.{in-Some+in_ok-push_numbers, in_default}

pub loop-number-init : goal.loop-number-init
loop-number-init c = subst (λ (next : List ℕ). AreBelow (numbers_in c.args.numbers.now) [] next) (sym c.new-next.ensures.items) (below_none (numbers_in c.args.numbers.now))

pub loop-number-preserved : goal.loop-number-preserved
loop-number-preserved c = elim c.match-folder.branch [
  | in-Some+in_ok-push_numbers w ↦ below_turn (numbers_in c.args.numbers.now) c.args.level.now c.loop-number.next.items c.loop-number.number-index c.loop-number.invariant
      c.match-folder.next.items w.in-Some.entries.now.entries c.loop-number-test.true w.in-Some.ensures.entries ((λ i. (w.next-is i).items) ∙ w.in_ok-push_numbers.ensures)
  | in_default w ↦ below_turn (numbers_in c.args.numbers.now) c.args.level.now c.loop-number.next.items c.loop-number.number-index c.loop-number.invariant
      c.match-folder.next.items [] c.loop-number-test.true w.in_default.ensures.none ((λ i. (w.next-is i).items) ∙ sym (append-nil c.loop-number.next.items))
]

pub returns : goal.returns
returns c = below_end (numbers_in c.args.numbers.now) c.args.level.now c.loop-number.next.items c.loop-number.number-index c.loop-number.invariant c.loop-number-test.false
