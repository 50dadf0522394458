-- The walk down a path, one name at a time.
use Rattle.std.proofs.Common.{◌≡◌, ℕ, ◌+◌, ◌<◌, ◌≤◌, [], ◌∷◌, length, take, drop, ap, ◌∙◌, arith, add-one, drop-cons, Option, Result, Some, None, Err, true, false}
use Rattle.tm_tree.specs.declared.item.Item.{Item}
use Rattle.tm_base.specs.declared.refused.Refused.{Refused}
use Rattle.std.proofs.lemmas.List.{take_more, take_all, drop_all}
use Rattle.tm_base.specs.declared.refused.Refused.TheVariants.{NotFound, NotFolder}
use Rattle.tm_tree.specs.Items.{is_folder}
use Rattle.tm_base.specs.Paths.{Names}
use Rattle.tm_tree.specs.Trees.{Tree, item_at}
use Rattle.tm_tree.specs.Walks.{walk_from, through, found}

-- on the way, at the first i names of p
pub walk_step : (t : Tree) (p : Names) (i : ℕ) → i < length p → walk_from t (take i p) (drop i p) ≡ through (item_at t (take i p)) (walk_from t (take (i + 1) p) (drop (i + 1) p))
walk_step t p i h = rw (take_more p i [] h, add-one, drop-cons p i [])

-- at its end
pub walk_end : (t : Tree) (p : Names) (i : ℕ) → i ≡ length p → walk_from t (take i p) (drop i p) ≡ found (item_at t p)
walk_end t p i h = let ends : length p ≤ i = omega arith in rw (take_all i p ends, drop_all i p ends)

-- a walk that has come to the first i names of p, where o stands
pub walk_on : (t : Tree) (p : Names) (i : ℕ) (o : Option Item) (w : Result Item Refused) → i < length p → w ≡ walk_from t (take i p) (drop i p) → item_at t (take i p) ≡ o → w ≡ through o (walk_from t (take (i + 1) p) (drop (i + 1) p))
walk_on t p i o w h comes here = comes ∙ walk_step t p i h ∙ ap (λ (x : Option Item). through x (walk_from t (take (i + 1) p) (drop (i + 1) p))) here

pub walk_missing : (t : Tree) (p : Names) (i : ℕ) (w : Result Item Refused) → i < length p → w ≡ walk_from t (take i p) (drop i p) → item_at t (take i p) ≡ None → w ≡ Err NotFound
walk_missing t p i w h comes here = walk_on t p i None w h comes here

pub walk_into : (t : Tree) (p : Names) (i : ℕ) (e : Item) (w : Result Item Refused) → i < length p → w ≡ walk_from t (take i p) (drop i p) → item_at t (take i p) ≡ Some e → is_folder e ≡ true → w ≡ walk_from t (take (i + 1) p) (drop (i + 1) p)
walk_into t p i e w h comes here is = walk_on t p i (Some e) w h comes here ∙ rw is

pub walk_blocked : (t : Tree) (p : Names) (i : ℕ) (e : Item) (w : Result Item Refused) → i < length p → w ≡ walk_from t (take i p) (drop i p) → item_at t (take i p) ≡ Some e → is_folder e ≡ false → w ≡ Err NotFolder
walk_blocked t p i e w h comes here is = walk_on t p i (Some e) w h comes here ∙ rw is

-- a walk that starts where nothing stands
pub walk_stops : (t : Tree) (done rest : Names) → item_at t done ≡ None → walk_from t done rest ≡ Err NotFound
walk_stops t done [] h = rw h
walk_stops t done (n ∷ rest) h = rw h
