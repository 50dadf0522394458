-- What stands at a path after a move.
use Rattle.std.proofs.Common.{◌≡◌, Bool, true, false, cond, [], ◌∷◌, ◌++◌, length, drop, map, refl, sym, ap, ◌∙◌, subst, Option, Some, None, if◌then◌else◌}
use Rattle.std.specs.Bool.{Decides, one_answer}
use Rattle.std.specs.declared.cmp.Ordering.TheVariants.{Less}
use Rattle.std.specs.BTreeMap.{is_at}
use Rattle.std.specs.List.Sorted.{IsStrictlySortedBy}
use Rattle.std.proofs.lemmas.List.Prefix.{front_rest}
use Rattle.tm_tree.specs.declared.item.Item.{Item}
use Rattle.tm_base.specs.Paths.{Names, path_cmp, is_prefix}
use Rattle.tm_tree.specs.Trees.{Tree, put, put_all, rekey, moved, item_at}
use Rattle.tm_tree.proofs.Order.{InOrder, AllPaths}
use Rattle.tm_tree.proofs.AtPaths.{item_at-put}
use Rattle.tm_tree.proofs.CopyProofs.{at_is as at_decides}
use Rattle.tm_base.proofs.PathLemmas.{prefix_is, is_prefix_of_append}

is_not : (b : Bool) {P : Type 0} → Decides b P → (P → ⊥) → b ≡ false
is_not true d n = absurd (n (d.0 refl))
is_not false d n = refl

-- the first, if there is one
abbrev pub or_else : Option Item → Option Item → Option Item
or_else None o = o
or_else (Some e) o = Some e

-- at a path below all others nothing stands
none_below : (t : Tree) (p : Names) → AllPaths (λ r. path_cmp p r ≡ Less) t → item_at t p ≡ None
none_below [] p h = refl
none_below (row ∷ t) p h = rw h.0 (none_below t p h.1)

one_put : (b : Bool) (e : Item) (there o : Option Item) → (b ≡ true → there ≡ None) → or_else there (cond b (Some e) o) ≡ or_else (cond b (Some e) there) o
one_put true e there o h = rw (h refl)
one_put false e there o h = refl

-- f puts on q what stands at p, and nothing else
pub read_back : (f : Names → Names) (p q : Names) (t acc : Tree) → InOrder t → AllPaths (λ r. is_at (path_cmp q) (f r) ≡ is_at (path_cmp p) r) t → item_at (put_all acc (map (λ row. (f row.0, row.1)) t)) q ≡ or_else (item_at t p) (item_at acc q)
unfolding IsStrictlySortedBy
read_back f p q [] acc h hits = refl
read_back f p q (row ∷ t) acc h hits =
    read_back f p q t (put acc (f row.0) row.1) h.1 hits.1
    ∙ ap (or_else (item_at t p)) (item_at-put acc (f row.0) row.1 q ∙ ap (λ b. cond b (Some row.1) (item_at acc q)) hits.0)
    ∙ one_put (is_at (path_cmp p) row.0) row.1 (item_at t p) (item_at acc q)
    (λ here. none_below t p (subst (λ (x : Names). AllPaths (λ r. path_cmp x r ≡ Less) t) (sym ((at_decides p row.0).0 here)) h.0))

-- f puts nothing on q
pub read_past : (f : Names → Names) (q : Names) (t acc : Tree) → AllPaths (λ r. is_at (path_cmp q) (f r) ≡ false) t → item_at (put_all acc (map (λ row. (f row.0, row.1)) t)) q ≡ item_at acc q
read_past f q [] acc h = refl
read_past f q (row ∷ t) acc h = read_past f q t (put acc (f row.0) row.1) h.1 ∙ item_at-put acc (f row.0) row.1 q ∙ ap (λ b. cond b (Some row.1) (item_at acc q)) h.0

-- ---- one path

clash : false ≡ true → ⊥
clash e = cc

module _ (a b q : Names) where
  -- q is beneath b, and r is not
  lands : (r : Names) → is_prefix b q ≡ true → is_prefix b r ≡ false → is_at (path_cmp q) (rekey a b r) ≡ is_at (path_cmp (a ++ drop (length b) q)) r
  lands r under free =
      elim (is_prefix a r) as (λ c. is_prefix a r ≡ c → is_at (path_cmp q) (if c then b ++ drop (length a) r else r) ≡ is_at (path_cmp (a ++ drop (length b) q)) r) [
        | true ↦ λ above. one_answer _ _ (at_decides q (b ++ drop (length a) r)) (
          λ h. prefix_is b q under ∙ ap (λ (x : Names). b ++ x) (sym (front_rest r a (drop (length b) q) (sym ((at_decides _ r).0 h)))),
          λ e. (at_decides _ r).1 (ap (λ (x : Names). a ++ x) (front_rest q b (drop (length a) r) e) ∙ sym (prefix_is a r above)),
        )
        | false ↦ λ apart. is_not _ (at_decides q r) (λ e. clash (sym free ∙ subst (λ (x : Names). is_prefix b x ≡ true) e under))
            ∙ sym (is_not _ (at_decides (a ++ drop (length b) q) r) (λ e. clash (sym apart ∙ is_prefix_of_append a r (drop (length b) q) (sym e))))
      ] refl

  -- neither at nor beneath b or a
  stays : (r : Names) → is_prefix b q ≡ false → is_prefix a q ≡ false → is_at (path_cmp q) (rekey a b r) ≡ is_at (path_cmp q) r
  stays r off out =
      elim (is_prefix a r) as (λ c. is_prefix a r ≡ c → is_at (path_cmp q) (if c then b ++ drop (length a) r else r) ≡ is_at (path_cmp q) r) [
        | true ↦ λ above. is_not _ (at_decides q (b ++ drop (length a) r)) (λ e. clash (sym off ∙ is_prefix_of_append b q (drop (length a) r) e))
            ∙ sym (is_not _ (at_decides q r) (λ e. clash (sym out ∙ subst (λ (x : Names). is_prefix a x ≡ true) (sym e) above)))
        | false ↦ λ apart. refl
      ] refl

  -- at or beneath a, and not beneath b
  leaves : (r : Names) → is_prefix b q ≡ false → is_prefix a q ≡ true → is_at (path_cmp q) (rekey a b r) ≡ false
  leaves r off under =
      elim (is_prefix a r) as (λ c. is_prefix a r ≡ c → is_at (path_cmp q) (if c then b ++ drop (length a) r else r) ≡ false) [
        | true ↦ λ above. is_not _ (at_decides q (b ++ drop (length a) r)) (λ e. clash (sym off ∙ is_prefix_of_append b q (drop (length a) r) e))
        | false ↦ λ apart. is_not _ (at_decides q r) (λ e. clash (sym apart ∙ subst (λ (x : Names). is_prefix a x ≡ true) e under))
      ] refl

every : {P Q : Names → Type 0} (t : Tree) → ((r : Names) → P r → Q r) → AllPaths P t → AllPaths Q t
every [] f h = tt
every (row ∷ t) f h = (f row.0 h.0, every t f h.1)

always : {Q : Names → Type 0} (t : Tree) → ((r : Names) → Q r) → AllPaths Q t
always [] f = tt
always (row ∷ t) f = (f row.0, always t f)

or_none : (o : Option Item) → or_else o None ≡ o
or_none None = refl
or_none (Some e) = refl

-- what stands at q after the move of a to b, where nothing stood at or beneath b
pub item_at-moved : (t : Tree) (a b q : Names) → InOrder t → AllPaths (λ r. is_prefix b r ≡ false) t → item_at (moved t a b) q ≡ (if is_prefix b q then item_at t (a ++ drop (length b) q) else if is_prefix a q then None else item_at t q)
item_at-moved t a b q h free =
    elim (is_prefix b q) as (λ c. is_prefix b q ≡ c → item_at (moved t a b) q ≡ (if c then item_at t (a ++ drop (length b) q) else if is_prefix a q then None else item_at t q)) [
      | true ↦ λ under. read_back (rekey a b) (a ++ drop (length b) q) q t [] h (every t (λ r f. lands a b q r under f) free) ∙ or_none _
      | false ↦ λ off. elim (is_prefix a q) as (λ c. is_prefix a q ≡ c → item_at (moved t a b) q ≡ (if c then None else item_at t q)) [
        | true ↦ λ under. read_past (rekey a b) q t [] (always t (λ r. leaves a b q r off under))
        | false ↦ λ out. read_back (rekey a b) q q t [] h (always t (λ r. stays a b q r off out)) ∙ or_none _
      ] refl
    ] refl
