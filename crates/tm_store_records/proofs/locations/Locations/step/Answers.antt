use Rattle.std.proofs.Common.{◌≡◌, ℕ, Some, nat_eq, cond, ap, ◌∙◌, arith, subst}
use Rattle.std.specs.Ordering.{nat_cmp}
use Rattle.std.specs.BTreeMap.{get}
use Rattle.tm_tree.specs.declared.node.Child.{Child}
use Rattle.tm_store_records.specs.declared.locations.Location.{Location}
use Rattle.tm_store_records.specs.declared.locations.Location.TheVariants.{Misplaced}
use Rattle.std.proofs.lemmas.Result.{on_ok_weaker}
use Rattle.tm_store_records.proofs.Walking.{locations_of, step_skipped, step_joined, step_deep, step_misplaced}
use Rattle.tm_store_records.proofs.locations.Locations.step.Goals as goal

pub returns-then-node-number-clause-tell : goal.returns-then-node-number-clause-tell
returns-then-node-number-clause-tell c = λ g roots place entry e tell. step_skipped g roots place entry c.args.number c.args.child.now e c.args.self.now (omega (arith, ap (λ (x : Child). x.node) c.child.view_is)) tell

pub returns-then-depth-lt-MAX_DEPTH-clause-tell : goal.returns-then-depth-lt-MAX_DEPTH-clause-tell
returns-then-depth-lt-MAX_DEPTH-clause-tell c =
    let at = c.requires ∙ ap (λ (s : Location). Some s) c.in-At.is in
    on_ok_weaker c.join.result
    (λ joins g roots place entry e tell. step_joined g roots place entry c.args.number c.args.child.now e (omega (arith, ap (λ (x : Child). x.node) c.child.view_is)) c.args.self.now tell c.join.new.self c.in-At.path c.in-At.depth at joins (omega arith))
    c.join.ensures

pub returns-else-depth-lt-MAX_DEPTH-clause-tell : goal.returns-else-depth-lt-MAX_DEPTH-clause-tell
returns-else-depth-lt-MAX_DEPTH-clause-tell c =
    let at = c.requires ∙ ap (λ (s : Location). Some s) c.in-At.is in
    on_ok_weaker c.put_location.result
    (λ puts g roots place entry e tell. step_deep g roots place entry c.args.number c.args.child.now e (omega (arith, ap (λ (x : Child). x.node) c.child.view_is)) c.args.self.now tell (λ n. get nat_cmp c.put_location.new.locations n) (subst (λ k. (m : ℕ) → get nat_cmp c.put_location.new.locations m ≡ cond (nat_eq m k) (Some Misplaced) (locations_of c.args.self.now m)) (ap (λ (x : Child). x.node) c.child.view_is) puts) c.in-At.path c.in-At.depth at (omega arith))
    c.put_location.ensures

pub returns-in-Misplaced-clause-tell : goal.returns-in-Misplaced-clause-tell
returns-in-Misplaced-clause-tell c =
    let at = c.requires ∙ ap (λ (s : Location). Some s) c.in-Misplaced.is in
    on_ok_weaker c.put_location-in-Misplaced.result
    (λ puts g roots place entry e tell. step_misplaced g roots place entry c.args.number c.args.child.now e (omega (arith, ap (λ (x : Child). x.node) c.child.view_is)) c.args.self.now tell (λ n. get nat_cmp c.put_location-in-Misplaced.new.locations n) (subst (λ k. (m : ℕ) → get nat_cmp c.put_location-in-Misplaced.new.locations m ≡ cond (nat_eq m k) (Some Misplaced) (locations_of c.args.self.now m)) (ap (λ (x : Child). x.node) c.child.view_is) puts) at)
    c.put_location-in-Misplaced.ensures
