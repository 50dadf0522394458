use Rattle.std.proofs.Common.{◌≡◌, Option, Some, None, nat_eq, cond, refl, ap, ◌∙◌}
use Rattle.std.specs.Ordering.{nat_cmp}
use Rattle.std.specs.BTreeMap.{get}
use Rattle.std.specs.Set.{is_member}
use Rattle.tm_store_records.specs.declared.locations.Location.{Location}
use Rattle.tm_store_records.specs.declared.locations.Location.TheVariants.{At}
use Rattle.tm_store_records.specs.Found.{roots_of}
use Rattle.tm_store_records.specs.Located.{step_cmp}
use Rattle.tm_store_records.proofs.Rooting.{roots_tell}
use Rattle.tm_store_records.proofs.locations.at_roots.Goals as goal

pub returns : goal.returns
returns c =
    let roots = roots_of c.args.snapshots.now in
    roots_tell c.args.nodes.now roots (λ q. get nat_cmp c.put_roots.new.locations q) (λ s. get step_cmp c.new.result s)
    (λ q. let none : get nat_cmp c.new-locations.result q ≡ None = rw c.new-locations.ensures.empty refl in
    c.in_ok-put_roots.ensures q ∙ ap (λ (o : Option Location). cond (is_member nat_eq roots q) (Some (At 0 0)) o) none)
    (λ s. let none : get step_cmp c.new.result s ≡ None = rw c.new.ensures.empty refl in none)
