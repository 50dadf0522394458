-- Several snapshots are removed at once.
use Rattle.std.specs.Prelude.{◌≡◌, ℕ, ◌+◌, ◌==◌, List, count_by}
use Rattle.tm_graph.specs.Nodes.{Nodes}
use Rattle.tm_graph.specs.Unlinking.{AreLost, HaveRootLinks, after_losses}
use Rattle.tm_identity.specs.Stores.{IsStore}
use Rattle.tm_identity.specs.Removals.{TreesStay}

-- the roots are those that stay and those that are removed
abbrev pub IsSplit : List ℕ → List ℕ → List ℕ → Type 0
IsSplit roots staying removed = (q : ℕ) → count_by (λ r. r == q) roots ≡ count_by (λ r. r == q) staying + count_by (λ r. r == q) removed

-- the root links may be taken off, what is left is a store under the roots that stay, and their trees stay
pub record IsStoreWithout (g : Nodes) (roots staying removed : List ℕ) : Type 0 where
  pub may : HaveRootLinks g removed
  pub store : (gone thinned : List ℕ) → AreLost g removed gone thinned → IsStore (after_losses g removed gone) staying
  pub trees : (gone thinned : List ℕ) → AreLost g removed gone thinned → TreesStay g (after_losses g removed gone) staying

abbrev pub RemovalsKeep : Type 0
RemovalsKeep = (g : Nodes) (roots staying removed : List ℕ) → IsStore g roots → IsSplit roots staying removed → IsStoreWithout g roots staying removed
