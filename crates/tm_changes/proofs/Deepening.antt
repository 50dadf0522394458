-- How far beneath an item others stand: level by level in the index, and in the tree.
use Rattle.std.proofs.Common.{◌≡◌, ◌⊎◌, inl, inr, ⊎_elim, ℕ, suc, ◌+◌, ◌<◌, ◌≤◌, ◌==◌, Bool, true, false, cond, not, List, [], ◌∷◌, ◌++◌, length, map, get_or, take, drop, refl, sym, ap, ◌∙◌, subst, Some, arith, length-append, length-take, append-nil, append_assoc}
use Rattle.std.specs.BTreeMap.{is_at}
use Rattle.std.specs.List.{list_any}
use Rattle.std.specs.Prelude.{filter, ◌||◌}
use Rattle.tm_base.specs.Paths.{path_cmp}
use Rattle.tm_tree.specs.declared.item.Item.{Item}
use Rattle.tm_tree.specs.Trees.{Tree, item_at}
use Rattle.tm_tree.proofs.CopyProofs.{at_is}
use Rattle.std.specs.Map.{lookup}
use Rattle.std.proofs.lemmas.Bool.{cases_lt}
use Rattle.std.proofs.lemmas.Bool.Decides.{nat_tests}
use Rattle.std.proofs.lemmas.List.{take-append-drop, take_all, take_more}
use Rattle.tm_base.specs.Paths.{Names, name_cmp, is_root, parent_of}
use Rattle.tm_items.specs.Index.{Numbers, IsIndex}
use Rattle.tm_items.specs.Listing.{AreEntries}
use Rattle.tm_items.specs.Places.{at_name}
use Rattle.tm_items.specs.Placings.{Items, Walks}
use Rattle.tm_items.proofs.Entries.{found_at}
use Rattle.tm_items.proofs.Finding.{last_apart}
use Rattle.tm_items.proofs.Parents.{parent_short}
use Rattle.tm_items.proofs.Reading.{Among as AmongNumbers}
use Rattle.tm_tree.specs.Trees.{last_of}
use Rattle.tm_changes.specs.Depths.{Leads, Among, AreBelow, IsLevel, Reaches}

abbrev Entries : Type 0
Entries = List (List ℕ × ℕ)

-- ---- lists of numbers

among_left : (c : ℕ) (xs ys : List ℕ) → Among c xs → Among c (xs ++ ys)
among_left c [] ys h = absurd h
among_left c (x ∷ xs) ys (inl e) = inl e
among_left c (x ∷ xs) ys (inr h) = inr (among_left c xs ys h)

among_right : (c : ℕ) (xs ys : List ℕ) → Among c ys → Among c (xs ++ ys)
among_right c [] ys h = h
among_right c (x ∷ xs) ys h = inr (among_right c xs ys h)

among_parts : (c : ℕ) (xs ys : List ℕ) → Among c (xs ++ ys) → Among c xs ⊎ Among c ys
among_parts c [] ys h = inr h
among_parts c (x ∷ xs) ys (inl e) = inl (inl e)
among_parts c (x ∷ xs) ys (inr h) = elim (among_parts c xs ys h) [
  | inl left ↦ inl (inr left)
  | inr right ↦ inr right
]

abbrev pub numbers_of : Entries → List ℕ
numbers_of es = map (λ e. e.1) es

-- an entry's number is among the numbers of the entries
entry_among : (es : Entries) (name : List ℕ) (c : ℕ) → lookup (is_at (name_cmp name)) es ≡ Some c → Among c (numbers_of es)
entry_among [] name c h = cc
entry_among (e ∷ es) name c h = by_test (entry_among es name c) (is_at (name_cmp name) e.0) h
  where
    by_test : (lookup (is_at (name_cmp name)) es ≡ Some c → Among c (numbers_of es)) → (b : Bool) → cond b (Some e.1) (lookup (is_at (name_cmp name)) es) ≡ Some c → (c ≡ e.1) ⊎ Among c (numbers_of es)
    by_test past true h = inl (let same : e.1 ≡ c = cc in sym same)
    by_test past false h = inr (past h)

-- a number is that of an entry
entry_of : (es : Entries) (c : ℕ) → Among c (numbers_of es) → (name : List ℕ) × AmongNumbers es name c
entry_of [] c h = absurd h
entry_of (e ∷ es) c (inl same) = (e.0, inl (refl, sym same))
entry_of (e ∷ es) c (inr h) = let r = entry_of es c h in (r.0, inr r.1)

-- the numbers of the entries so far, and those of the rest
pub numbers_pushed : (xs pushed : List ℕ) (es rest : Entries) (name : List ℕ) (n : ℕ) (all : List ℕ) → pushed ≡ xs ++ n ∷ [] → es ≡ (name, n) ∷ rest → xs ++ numbers_of es ≡ all → pushed ++ numbers_of rest ≡ all
numbers_pushed xs pushed es rest name n all push first so_far =
    ap (λ (ys : List ℕ). ys ++ numbers_of rest) push ∙ append_assoc xs (n ∷ []) (numbers_of rest) ∙ ap (λ (row : Entries). xs ++ numbers_of row) (sym first) ∙ so_far

pub numbers_end : (xs : List ℕ) (es : Entries) (all : List ℕ) → es ≡ [] → xs ++ numbers_of es ≡ all → xs ≡ all
numbers_end xs es all none so_far = sym (append-nil xs) ∙ ap (λ (row : Entries). xs ++ numbers_of row) (sym none) ∙ so_far

-- ---- the paths that lead down

pub leads_more : (numbers : Numbers) (a k c : ℕ) (p : Names) (name : List ℕ) → Leads numbers a p k → numbers (at_name k name) ≡ Some c → Leads numbers a (p ++ name ∷ []) c
leads_more numbers a k c [] name h is = (c, subst (λ (x : ℕ). numbers (at_name x name) ≡ Some c) (sym h) is, refl)
leads_more numbers a k c (first ∷ p) name h is = (h.0, h.1, leads_more numbers h.0 k c p name h.2 is)

pub leads_parts : (numbers : Numbers) (a c : ℕ) (p q : Names) → Leads numbers a (p ++ q) c → (k : ℕ) × Leads numbers a p k × Leads numbers k q c
leads_parts numbers a c [] q h = (a, refl, h)
leads_parts numbers a c (first ∷ p) q h = let l = leads_parts numbers h.0 c p q h.2 in (l.0, (h.0, h.1, l.1), l.2)

-- ---- the folders of a level

pub below_none : (numbers : Numbers) → AreBelow numbers [] []
below_none numbers = record { from = λ c h. absurd h; all = λ k c name h is. absurd h }

module _ (numbers : Numbers) (level next : List ℕ) (k : ℕ) (es : Entries) (below : AreBelow numbers level next) (are : AreEntries numbers k es) where
  found : (c : ℕ) → Among c (numbers_of es) → (called : List ℕ) × (numbers (at_name k called) ≡ Some c)
  found c h = let e = entry_of es c h in (e.0, sym (are.are e.0) ∙ found_at es e.0 c are.in_order e.1)

  pub below_more : AreBelow numbers (level ++ k ∷ []) (next ++ numbers_of es)
  below_more = record {
    from = λ c h. elim (among_parts c next (numbers_of es) h) [
      | inl old ↦ let b = below.from c old in (b.0, among_left b.0 level (k ∷ []) b.1, b.2)
      | inr new ↦ (k, among_right k level (k ∷ []) (inl refl), found c new)
    ];
    all = λ j c name h is. elim (among_parts j level (k ∷ []) h) [
      | inl old ↦ among_left c next (numbers_of es) (below.all j c name old is)
      | inr new ↦ among_right c next (numbers_of es) (entry_among es name c (are.are name ∙ subst (λ (x : ℕ). numbers (at_name x name) ≡ Some c) (only j new) is))
    ];
  }
    where
      only : (j : ℕ) → Among j (k ∷ []) → j ≡ k
      only j (inl e) = e
      only j (inr h) = absurd h

module _ (numbers : Numbers) (level next : List ℕ) (i : ℕ) (below : AreBelow numbers (take i level) next) where
  -- one folder of the level more
  pub below_turn : (pushed : List ℕ) (es : Entries) → i < length level → AreEntries numbers (get_or level i 0) es → pushed ≡ next ++ numbers_of es → AreBelow numbers (take (i + 1) level) pushed
  below_turn pushed es low are is =
      subst (λ (xs : List ℕ). AreBelow numbers xs pushed) (sym (take_more level i 0 low))
      (subst (λ (xs : List ℕ). AreBelow numbers (take i level ++ get_or level i 0 ∷ []) xs) (sym is) (below_more numbers (take i level) next (get_or level i 0) es below are))

  pub below_end : length level ≤ i → AreBelow numbers level next
  below_end all = subst (λ (xs : List ℕ). AreBelow numbers xs next) (take_all i level all) below

-- ---- the levels

pub level_start : (numbers : Numbers) (n : ℕ) → IsLevel numbers n 0 (n ∷ [])
level_start numbers n = record { from = λ c h. ([], refl, sym (only c h)); all = λ rest c len leads. first rest c len leads }
  where
    only : (c : ℕ) → Among c (n ∷ []) → c ≡ n
    only c (inl e) = e
    only c (inr h) = absurd h

    first : (rest : Names) (c : ℕ) → length rest ≡ 0 → Leads numbers n rest c → Among c (n ∷ [])
    first [] c len leads = inl (sym leads)
    first (x ∷ rest) c len leads = absurd (omega (arith, len))

module _ (numbers : Numbers) (n i : ℕ) (level next : List ℕ) (is : IsLevel numbers n i level) (below : AreBelow numbers level next) where
  pub level_next : IsLevel numbers n (i + 1) next
  level_next = record {
    from = λ c h.
        let b = below.from c h in
        let l = is.from b.0 b.1 in
        (l.0 ++ b.2.0 ∷ [], omega (arith, length-append l.0 (b.2.0 ∷ []), l.1), leads_more numbers n b.0 c l.0 b.2.0 l.2 b.2.1);
    all = λ rest c len leads.
        let out : is_root rest ≡ false = long rest len in
        let parts = leads_parts numbers n c (parent_of rest) (last_of rest ∷ []) (subst (λ (q : Names). Leads numbers n q c) (last_apart rest out) leads) in
        let short : length (parent_of rest) ≡ i = omega (arith, parent_short rest out, len) in
        let last : numbers (at_name parts.0 (last_of rest)) ≡ Some c = parts.2.1 ∙ ap Some parts.2.2 in
        below.all parts.0 c (last_of rest) (is.all (parent_of rest) parts.0 short parts.1) last;
  }
    where
      long : (rest : Names) → length rest ≡ i + 1 → is_root rest ≡ false
      long rest len = grind (arith, nat_tests)

-- ---- in the items

leads_walks : (items : Items) (numbers : Numbers) → IsIndex items numbers → (a c : ℕ) (p : Names) → Leads numbers a p c → Walks items a p c
leads_walks items numbers index a c [] h = h
leads_walks items numbers index a c (name ∷ p) h = (h.0, index.told (at_name a name) h.0 h.1, leads_walks items numbers index h.0 c p h.2)

walks_leads : (items : Items) (numbers : Numbers) → IsIndex items numbers → (a c : ℕ) (p : Names) → Walks items a p c → Leads numbers a p c
walks_leads items numbers index a c [] h = h
walks_leads items numbers index a c (name ∷ p) h = (h.0, index.known a h.0 name h.1, walks_leads items numbers index h.0 c p h.2)

one_of : (level : List ℕ) → true ≡ not (length level == 0) → (c : ℕ) × Among c level
one_of [] h = absurd (let bad : true ≡ false = h in cc)
one_of (x ∷ xs) h = (x, inl refl)

none_of : (level : List ℕ) (c : ℕ) → false ≡ not (length level == 0) → Among c level → ⊥
none_of [] c h a = a
none_of (x ∷ xs) c h a = not_zero (length xs) h
  where
    not_zero : (b : ℕ) → false ≡ not (suc b == 0) → ⊥
    not_zero b h = grind (arith, nat_tests)

module _ (items : Items) (numbers : Numbers) (index : IsIndex items numbers) (n steps : ℕ) where
  -- something stands so far down
  pub reached_down : Reaches numbers n steps true → (rest : Names) × (length rest ≡ steps) × ((c : ℕ) × Walks items n rest c)
  reached_down r =
      let one = one_of r.level r.is in
      let l = r.is_level.from one.0 one.1 in
      (l.0, l.1, (one.0, leads_walks items numbers index n one.0 l.0 l.2))

  -- or nothing does, and nothing further down
  pub nothing_down : Reaches numbers n steps false → (rest : Names) (c : ℕ) → Walks items n rest c → length rest < steps
  nothing_down r rest c walks = ⊎_elim (λ (lt : length rest < steps). lt) (λ (le : steps ≤ length rest).
      let parts = leads_parts numbers n c (take steps rest) (drop steps rest) (subst (λ (q : Names). Leads numbers n q c) (sym (take-append-drop steps rest)) (walks_leads items numbers index n c rest walks)) in
      let len : length (take steps rest) ≡ steps = omega (arith, length-take steps rest, le) in
      absurd (none_of r.level parts.0 r.is (r.is_level.all (take steps rest) parts.0 len parts.1))) (cases_lt (length rest) steps)

-- ---- in the tree

some_or : (b c : Bool) → c ≡ true → (b || c) ≡ true
some_or true c h = refl
some_or false c h = h

-- a row that passes is found
pub any_row : (f g : Names → Bool) (t : Tree) (p : Names) (e : Item) → item_at t p ≡ Some e → g p ≡ true → f p ≡ true → list_any (λ row. f row.0) (filter (λ row. g row.0) t) ≡ true
any_row f g [] p e is keeps passes = cc
any_row f g (row ∷ t) p e is keeps passes = by_test (λ h. any_row f g t p e h keeps passes) (is_at (path_cmp p) row.0) refl is
  where
    past : (b : Bool) → list_any (λ row. f row.0) (filter (λ row. g row.0) t) ≡ true → list_any (λ row. f row.0) (cond b (row ∷ filter (λ row. g row.0) t) (filter (λ row. g row.0) t)) ≡ true
    past true h = some_or (f row.0) (list_any (λ row. f row.0) (filter (λ row. g row.0) t)) h
    past false h = h

    by_test : (item_at t p ≡ Some e → list_any (λ row. f row.0) (filter (λ row. g row.0) t) ≡ true) → (b : Bool) → is_at (path_cmp p) row.0 ≡ b → cond b (Some row.1) (item_at t p) ≡ Some e → list_any (λ row. f row.0) (cond (g row.0) (row ∷ filter (λ row. g row.0) t) (filter (λ row. g row.0) t)) ≡ true
    by_test rest true here h =
        let same : row.0 ≡ p = sym ((at_is p row.0).0 here) in
        ap (λ b. list_any (λ row. f row.0) (cond b (row ∷ filter (λ row. g row.0) t) (filter (λ row. g row.0) t))) (ap g same ∙ keeps)
        ∙ ap (λ b. b || list_any (λ row. f row.0) (filter (λ row. g row.0) t)) (ap f same ∙ passes)
    by_test rest false off h = past (g row.0) (rest h)
