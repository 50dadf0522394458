use Rattle.std.proofs.Common.{false, ◌≡◌, All, subst, is_lt}
use Rattle.std.specs.Map.{keys_of}
use Rattle.std.proofs.lemmas.Cmp.{nat_list_cmp_total}
use Rattle.tm_base.specs.Paths.{name_cmp}
use Rattle.tm_nodes.proofs.Orders.{above_all, on_true}
use Rattle.tm_nodes.proofs.attrs.is_above.Goals as goal

pub returns-in-Some-clause-above : goal.returns-in-Some-clause-above
returns-in-Some-clause-above c =
    let low = c.in-Some.last.now in
    on_true c.lt.result (is_lt (name_cmp low c.args.name.now)) c.lt.ensures
    (λ lt. above_all nat_list_cmp_total low c.args.name.now c.args.extras.now lt (subst (λ es. All (λ k. is_lt (name_cmp low k) ≡ false) (keys_of es)) c.values.ensures c.in-Some.ensures.all_up_to))
