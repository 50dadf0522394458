use Rattle.tm_gate.proofs.Calls.{first, first_stays, second, third, third_stays, fourth, turned}
use Rattle.tm_gate.proofs.turning.name_other.Goals as goal

pub returns-in_err-write-clause-any_moment : goal.returns-in_err-write-clause-any_moment
returns-in_err-write-clause-any_moment g c told =
    first c.args.side _ _ _ _ (c.requires.gate told) c.requires.named.0 c.requires.named.1 _ (c.write.ensures.steps told)

pub returns-in_err-sync-clause-any_moment : goal.returns-in_err-sync-clause-any_moment
returns-in_err-sync-clause-any_moment g c told =
    first_stays c.args.side _ _ _ _ (c.requires.gate told) c.requires.named.0 c.requires.named.1 _ _ (c.write.ensures.steps told) (c.in_err-sync.ensures.err told)

pub returns-in_err-write-2-clause-any_moment : goal.returns-in_err-write-2-clause-any_moment
returns-in_err-write-2-clause-any_moment g c told =
    let reached = second c.args.side _ _ _ _ (c.requires.gate told) c.requires.named.0 c.requires.named.1 _ _ (c.in_ok-write.ensures.steps told) (c.in_ok-sync.ensures.ok told) in
    third c.args.side _ _ _ _ (c.requires.gate told) c.requires.named.0 c.requires.named.1 _ reached _ _ (c.write-2.ensures.steps told)

pub returns-in_err-sync-2-clause-any_moment : goal.returns-in_err-sync-2-clause-any_moment
returns-in_err-sync-2-clause-any_moment g c told =
    let reached = second c.args.side _ _ _ _ (c.requires.gate told) c.requires.named.0 c.requires.named.1 _ _ (c.in_ok-write.ensures.steps told) (c.in_ok-sync.ensures.ok told) in
    third_stays c.args.side _ _ _ _ (c.requires.gate told) c.requires.named.0 c.requires.named.1 _ reached _ _ _ (c.write-2.ensures.steps told) (c.in_err-sync-2.ensures.err told)

pub returns-clause-any_moment : goal.returns-clause-any_moment
returns-clause-any_moment g c told =
    let reached = second c.args.side _ _ _ _ (c.requires.gate told) c.requires.named.0 c.requires.named.1 _ _ (c.in_ok-write.ensures.steps told) (c.in_ok-sync.ensures.ok told) in
    fourth c.args.side _ _ _ _ (c.requires.gate told) c.requires.named.0 c.requires.named.1 _ reached _ _ _ c.selector_for-selector.ensures.names (c.in_ok-write-2.ensures.steps told) (c.in_ok-sync-2.ensures.ok told)

pub returns-clause-turned : goal.returns-clause-turned
returns-clause-turned g c told =
    let reached = second c.args.side _ _ _ _ (c.requires.gate told) c.requires.named.0 c.requires.named.1 _ _ (c.in_ok-write.ensures.steps told) (c.in_ok-sync.ensures.ok told) in
    turned c.args.side _ _ _ _ (c.requires.gate told) c.requires.named.0 c.requires.named.1 _ reached _ _ _ c.selector_for-selector.ensures.names (c.in_ok-write-2.ensures.steps told) (c.in_ok-sync-2.ensures.ok told)
