-- A new volume's tree is a tree.
use Rattle.std.proofs.Common.{◌≡◌, ℕ, true, false, cond, [], refl, sym, ap, ◌∙◌, Some, None, is_some}
use Rattle.std.specs.BTreeMap.{is_at}
use Rattle.std.specs.List.Sorted.{IsStrictlySortedBy}
use Rattle.tm_base.specs.Paths.{Names, path_cmp, is_root}
use Rattle.tm_tree.specs.Items.{new_folder}
use Rattle.tm_tree.specs.Trees.{new_tree, item_at, IsTree}
use Rattle.tm_tree.proofs.CopyProofs.{at_is}
use Rattle.tm_tree.proofs.Order.{InOrder}
use Rattle.tm_tree.proofs.TreesKept.{clash}

alone_in_order : (moment : ℕ) → InOrder (new_tree (new_folder moment))
unfolding IsStrictlySortedBy
alone_in_order moment = (tt, tt)

-- nothing but the root stands there
nothing_else : (moment : ℕ) (q : Names) → is_root q ≡ false → is_some (item_at (new_tree (new_folder moment)) q) ≡ false
nothing_else moment q out =
    elim (is_at (path_cmp q) []) as (λ b. is_at (path_cmp q) [] ≡ b → is_some (cond b (Some (new_folder moment)) None) ≡ false) [
      | true ↦ λ here. absurd (clash (sym out ∙ ap is_root ((at_is q []).0 here)))
      | false ↦ λ _. refl
    ] refl

pub new_kept : (moment : ℕ) → IsTree (new_tree (new_folder moment))
new_kept moment = record {
  in_order = alone_in_order moment;
  rooted = refl;
  placed = λ q out there. absurd (clash (sym (nothing_else moment q out) ∙ there));
}
