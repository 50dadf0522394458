use Rattle.std.proofs.Common.{List, Option, ℕ, inl, inr, ap, sym, ◌∙◌, arith}
use Rattle.tm_items.specs.Computed.{under}
use Rattle.tm_volume.proofs.Gathering.{path_root, parent_there, path_over}
use Rattle.tm_volume.proofs.contents.+path_of.Goals as goal

pub returns-then-number-eq1-clause-path : goal.returns-then-number-eq1-clause-path
returns-then-number-eq1-clause-path t c = λ bytes. c.root.ensures ∙ elim c.then-number-eq1.either [
  | inl one ↦ path_root c.args.steps c.args.number _ (inl one)
  | inr none ↦ path_root c.args.steps c.args.number _ (inr none.1)
]

pub path_of-requires : goal.path_of-requires
path_of-requires t c = (
  omega arith,
  (c.requires.sound, (parent_there c.args.image.now.records c.args.number c.in_ok-parent.field-0 c.in_ok-parent.ensures c.if-number-eq1.false c.requires.sound, omega arith)),
)

pub returns-in_ok-push-in-Some-clause-path : goal.returns-in_ok-push-in-Some-clause-path
returns-in_ok-push-in-Some-clause-path t c = path_over c.args.image.now.records c.args.number c.in_ok-parent.field-0 c.in_ok-parent.ensures c.if-number-eq1.false
    c.args.steps c.in_ok-path.path c.push.new.self (omega (arith, c.if-steps-eq0.false)) c.in_ok-path.ensures.path
    (c.in_ok-push-in-Some.ensures.ok ∙ ap (λ (o : Option (List ℕ)). under c.in_ok-path.path o) (sym c.in-Some.is))

pub returns-in-None-clause-path : goal.returns-in-None-clause-path
returns-in-None-clause-path t c = path_over c.args.image.now.records c.args.number c.in_ok-parent.field-0 c.in_ok-parent.ensures c.if-number-eq1.false
    c.args.steps c.in_ok-path.path c.in_ok-path.path (omega (arith, c.if-steps-eq0.false)) c.in_ok-path.ensures.path
    (ap (λ (o : Option (List ℕ)). under c.in_ok-path.path o) (sym c.in-None.is))
