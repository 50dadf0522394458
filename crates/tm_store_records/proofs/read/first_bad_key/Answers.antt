use Rattle.std.proofs.Common.{◌≡◌, ℕ, Option, sym, ◌∙◌, subst}
use Rattle.tm_store_records.specs.Rules.{IsGoodKey}
use Rattle.tm_store_records.specs.Drafts.{IsLeastFailing, lesser}
use Rattle.tm_store_records.proofs.Least.{draft_least}
use Rattle.tm_store_records.proofs.read.first_bad_key.Goals as goal

pub returns : goal.returns
returns c = λ heads tells.
    let draft = c.args.draft.now in
    let snapshot = c.bad_snapshot-snapshot.result in
    let node = c.in_ok-node.node in
    let key : c.lesser-3.result ≡ lesser (lesser c.bad_machine-machine.result draft.unread) (lesser snapshot node)
    = c.lesser-3.ensures ∙ (λ i. lesser (c.lesser.ensures i) (c.lesser-2.ensures i)) in
    subst (λ (o : Option ℕ). IsLeastFailing (IsGoodKey heads c.args.number) o) (sym key)
    (draft_least draft heads c.args.number c.bad_machine-machine.result snapshot node tells c.bad_machine-machine.ensures c.bad_snapshot-snapshot.ensures c.in_ok-node.ensures)
