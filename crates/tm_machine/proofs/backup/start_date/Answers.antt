use Rattle.std.proofs.Common.{◌<◌, ℕ, List, Option, Result, Err, length, sym, ◌∙◌, ap, arith, subst}
use Rattle.std.proofs.lemmas.Result.{err_from_is_err_and}
use Rattle.tm_base.specs.declared.refused.Refused.{Refused}
use Rattle.tm_base.specs.Limits.{max_snapshots}
use Rattle.tm_store_records.specs.declared.snapshot.Snapshot.{Snapshot}
use Rattle.tm_store_records.specs.Held.{store_on}
use Rattle.tm_machine.specs.Backups.{Starts}
use Rattle.tm_machine.specs.Steps.{backup_tests}
use Rattle.tm_tree.specs.Refusing.{first_refused}
use Rattle.tm_machine.proofs.StartLemmas.{is_spent, may_finish, may_start, not_later}
use Rattle.tm_machine.proofs.backup.start_date.Goals as goal

pub returns-in_err-check_later-clause-starts : goal.returns-in_err-check_later-clause-starts
returns-in_err-check_later-clause-starts c bytes =
    let few : length c.args.store.now.snapshots < max_snapshots = omega (arith, c.if-count-ge-MAX_SNAPSHOTS.false, ap (λ (xs : List Snapshot). length xs) (c.as_slice-count.ensures ∙ c.snapshots.ensures)) in
    let q = err_from_is_err_and c.from_residual.result c.from_residual.ensures.1 in
    let late = c.in_err-check_later.ensures in
    subst (λ (r : Result ℕ Refused). Starts (store_on c.args.store.now bytes) c.args.moment r) (sym (q.1 ∙ ap Err (q.2 ∙ late.3)))
    (ap (λ (m : Option ℕ). first_refused (backup_tests (store_on c.args.store.now bytes) m)) c.in-Some.is ∙ not_later c.args.store.now bytes c.in-Some.date few late.0 late.1 late.2)

pub returns-then-number-ge-LAST_NUMBER-clause-starts : goal.returns-then-number-ge-LAST_NUMBER-clause-starts
returns-then-number-ge-LAST_NUMBER-clause-starts c bytes =
    let few : length c.args.store.now.snapshots < max_snapshots = omega (arith, c.if-count-ge-MAX_SNAPSHOTS.false, ap (λ (xs : List Snapshot). length xs) (c.as_slice-count.ensures ∙ c.snapshots.ensures)) in
    ap (λ (m : Option ℕ). first_refused (backup_tests (store_on c.args.store.now bytes) m)) c.in-Some.is
    ∙ is_spent c.args.store.now bytes c.in-Some.date few c.in_ok-check_later.ensures (omega (arith, c.if-number-ge-LAST_NUMBER.true, c.number.ensures))

pub returns-clause-starts : goal.returns-clause-starts
returns-clause-starts c bytes =
    let few : length c.args.store.now.snapshots < max_snapshots = omega (arith, c.if-count-ge-MAX_SNAPSHOTS.false, ap (λ (xs : List Snapshot). length xs) (c.as_slice-count.ensures ∙ c.snapshots.ensures)) in (
      ap (λ (m : Option ℕ). first_refused (backup_tests (store_on c.args.store.now bytes) m)) c.in-Some.is
          ∙ may_start c.args.store.now bytes c.in-Some.date few c.in_ok-check_later.ensures (omega (arith, c.if-number-ge-LAST_NUMBER.false, c.number.ensures)),
      c.in-Some.is,
    )

pub returns-clause-may : goal.returns-clause-may
returns-clause-may c =
    let few : length c.args.store.now.snapshots < max_snapshots = omega (arith, c.if-count-ge-MAX_SNAPSHOTS.false, ap (λ (xs : List Snapshot). length xs) (c.as_slice-count.ensures ∙ c.snapshots.ensures)) in
    may_finish c.args.store.now c.in-Some.date c.requires few c.in_ok-check_later.ensures (omega (arith, c.if-number-ge-LAST_NUMBER.false, c.number.ensures))
