-- How numbers come to stand, folder by folder and entry by entry.
use Rattle.std.proofs.Common.{suc, ◌≡◌, ◌⊎◌, inl, inr, ⊎_elim, ℕ, ◌+◌, ◌<◌, ◌≤◌, Bool, true, false, cond, Option, Some, None, List, [], ◌∷◌, ◌++◌, length, slice_get, get_or, nat_eq, refl, sym, ap, ◌∙◌, arith, subst}
use Rattle.std.specs.declared.cmp.Ordering.TheVariants.{Equal}
use Rattle.std.specs.Ordering.{nat_cmp}
use Rattle.std.specs.Set.{is_member}
use Rattle.std.specs.Map.{keys_of}
use Rattle.std.specs.List.Sorted.{IsStrictlySortedBy}
use Rattle.std.proofs.lemmas.Bool.{cases_lt}
use Rattle.std.proofs.lemmas.Cmp.{nat_list_cmp_total, tied_itself}
use Rattle.std.proofs.lemmas.Option.{slice_get_within, get_or_from_slice_get}
use Rattle.tm_base.specs.Paths.{Names, same_name, name_cmp}
use Rattle.tm_tree.specs.declared.node.Child.{Child}
use Rattle.tm_tree.specs.declared.node.NodeRow.{NodeRow}
use Rattle.tm_graph.specs.Nodes.{Nodes, node, entries_of, NamesRise}
use Rattle.tm_graph.specs.Trees.{child_of}
use Rattle.tm_graph.specs.Walks.{child_named}
use Rattle.tm_graph.proofs.PlaceAt.{name_is, cmp_decides}
use Rattle.tm_graph.proofs.ChildLemmas.{child_found}
use Rattle.tm_store_records.specs.Places.{LeadsDown, NodeStandsAt}
use Rattle.tm_store_records.specs.Located.{Comes, DoneFrom, IsAmongEntries, DoneIn}
use Rattle.tm_store_records.proofs.Placed.{at_place, place_of, placed_below}
use Rattle.tm_store_records.proofs.LocationLemmas.{Grows}

-- ---- the last step of a way

pub leads_push : (g : Nodes) (from m to : ℕ) (p : Names) (name : List ℕ) → LeadsDown g from p m → child_of (node g m) name ≡ Some to → to < m → LeadsDown g from (p ++ name ∷ []) to
leads_push g from m to [] name way child low = (to, subst (λ k. child_of (node g k) name ≡ Some to) (sym way) child, subst (λ k. to < k) (sym way) low, refl)
leads_push g from m to (x ∷ p) name way child low = (way.0, way.1, way.2, leads_push g way.0 m to p name way.3 child low)

pub record LastStep (g : Nodes) (from to : ℕ) (p : Names) (name : List ℕ) : Type 0 where
  pub folder : ℕ
  pub way : LeadsDown g from p folder
  pub child : child_of (node g folder) name ≡ Some to
  pub low : to < folder

pub last_step : (g : Nodes) (from to : ℕ) (p : Names) (name : List ℕ) → LeadsDown g from (p ++ name ∷ []) to → LastStep g from to p name
last_step g from to [] name way = record {
  folder = from;
  way = refl;
  child = way.1 ∙ ap (λ k. Some k) way.3;
  low = subst (λ k. k < from) way.3 way.2;
}
last_step g from to (x ∷ p) name way = let rest = last_step g way.0 to p name way.3 in record { folder = rest.folder; way = (way.0, way.1, way.2, rest.way); child = rest.child; low = rest.low }

-- a path is the root's, or has a last name
pub record HasLast (p : Names) : Type 0 where
  pub front : Names
  pub name : List ℕ
  pub is : p ≡ front ++ name ∷ []

pub last_or_root : (p : Names) → (p ≡ []) ⊎ HasLast p
last_or_root [] = inl refl
last_or_root (x ∷ p) = ⊎_elim
    (λ (e : p ≡ []). inr (record { front = []; name = x; is = ap (λ (q : Names). x ∷ q) e }))
    (λ (h : HasLast p). inr (record { front = x ∷ h.front; name = h.name; is = ap (λ (q : Names). x ∷ q) h.is }))
    (last_or_root p)

-- ---- entries by name

pub named_at : (es : List Child) (i : ℕ) (child : Child) → NamesRise es → slice_get es i ≡ Some child → child_named es child.name ≡ Some child.node
named_at es i child rise is =
    let here : get_or es i child ≡ child = get_or_from_slice_get es i child child is in
    subst (λ (c : Child). child_named es child.name ≡ Some c.node) here
    (child_found es child.name i child rise (slice_get_within es i child is) (subst (λ (c : Child). name_cmp c.name child.name ≡ Equal) (sym here) (tied_itself nat_list_cmp_total child.name)))

pub record EntryAt (es : List Child) (name : List ℕ) (n : ℕ) : Type 0 where
  pub at : ℕ
  pub is : slice_get es at ≡ Some (record { name = name; node = n })

pub entry_of : (es : List Child) (name : List ℕ) (n : ℕ) → child_named es name ≡ Some n → EntryAt es name n
entry_of [] name n is = absurd (cc is)
entry_of (c ∷ es) name n is = by_name (same_name c.name name) refl (λ later. entry_of es name n later)
  where
    by_name : (b : Bool) → same_name c.name name ≡ b → (child_named es name ≡ Some n → EntryAt es name n) → EntryAt (c ∷ es) name n
    by_name true t later =
        let same : c.name ≡ name = (cmp_decides name c.name).0 (sym (name_is name c.name) ∙ t) in
        let put : Some c.node ≡ Some n = sym (ap (λ b. cond b (Some c.node) (child_named es name)) t) ∙ is in
        let number : c.node ≡ n = cc in
        record { at = 0; is = λ i. Some (record { name = same i; node = number i }) }
    by_name false t later = let rest = later (sym (ap (λ b. cond b (Some c.node) (child_named es name)) t) ∙ is) in record { at = suc rest.at; is = rest.is }

module _ (g : Nodes) (roots : List ℕ) where
  -- ---- all that comes stands

  pub comes_stands : (Done : ℕ → List ℕ → Type 0) (p : Names) (n : ℕ) → Comes g roots Done p n → NodeStandsAt g roots p n
  comes_stands Done p n (inl root) = subst (λ (q : Names). NodeStandsAt g roots q n) (sym root.0) (record { root = n; is_root = root.1; leads = refl })
  comes_stands Done p n (inr by) = subst (λ (q : Names). NodeStandsAt g roots q n) (sym by.is)
      (record { root = by.stands.root; is_root = by.stands.is_root; leads = leads_push g by.stands.root by.folder n by.path by.name by.stands.leads by.child by.low })

  pub comes_more : (Done More : ℕ → List ℕ → Type 0) → ((folder m : ℕ) (name : List ℕ) → child_of (node g folder) name ≡ Some m → Done folder name → More folder name) → (p : Names) (n : ℕ) → Comes g roots Done p n → Comes g roots More p n
  comes_more Done More more p n (inl root) = inl root
  comes_more Done More more p n (inr by) = inr (record { folder = by.folder; path = by.path; name = by.name; is = by.is; stands = by.stands; child = by.child; low = by.low; done = more by.folder n by.name by.child by.done })

  -- what stands has come, where the folder of each last step is done
  pub stands_comes : (Done : ℕ → List ℕ → Type 0) (p : Names) (n : ℕ) → ((folder : ℕ) (row : NodeRow) (name : List ℕ) → n < folder → node g folder ≡ Some row → Done folder name) → NodeStandsAt g roots p n → Comes g roots Done p n
  stands_comes Done p n done at = ⊎_elim
      (λ (e : p ≡ []). inl (e, subst (λ k. is_member nat_eq roots k ≡ true) (subst (λ (q : Names). LeadsDown g at.root q n) e at.leads) at.is_root))
      (λ (h : HasLast p).
      let last = last_step g at.root n h.front h.name (subst (λ (q : Names). LeadsDown g at.root q n) h.is at.leads) in
      inr (record {
        folder = last.folder;
        path = h.front;
        name = h.name;
        is = h.is;
        stands = record { root = at.root; is_root = at.is_root; leads = last.way };
        child = last.child;
        low = last.low;
        done = by_node last.folder h.name last.low last.child (node g last.folder) refl;
      }))
      (last_or_root p)
    where
      by_node : (folder : ℕ) (name : List ℕ) → n < folder → child_of (node g folder) name ≡ Some n → (o : Option NodeRow) → node g folder ≡ o → Done folder name
      by_node folder name low child None e = absurd (let bad : None ≡ Some n = sym (ap (λ (x : Option NodeRow). child_of x name) e) ∙ child in cc)
      by_node folder name low child (Some row) e = done folder row name low e

module _ (g : Nodes) (roots : List ℕ) (place n : ℕ) (row : NodeRow) (sorted : IsStrictlySortedBy nat_cmp (keys_of g)) (is : slice_get g place ≡ Some (n, row)) where
  -- before a folder is passed, all its places are known
  pub stands_before : (p : Names) → NodeStandsAt g roots p n → Comes g roots (DoneFrom g (place + 1)) p n
  stands_before p at = stands_comes g roots (DoneFrom g (place + 1)) p n (λ folder other name low e. (let there = place_of g folder other e in
      record { at = there.0; row = other; from = (let lt = placed_below g place there.0 (n, row) (folder, other) sorted is there.1 low in omega (arith, lt)); is = there.1 })) at

  here : node g n ≡ Some row
  here = at_place g place (n, row) sorted is

  same_row : (folder : ℕ) (other : NodeRow) → slice_get g place ≡ Some (folder, other) → (n ≡ folder) × (row ≡ other)
  same_row folder other at = let both : Some (n, row) ≡ Some (folder, other) = sym is ∙ at in let rows : (n, row) ≡ (folder, other) = cc in (ap (λ (e : ℕ × NodeRow). e.0) rows, ap (λ (e : ℕ × NodeRow). e.1) rows)

  -- none of its entries yet
  pub first_entry : (p : Names) (m : ℕ) → Comes g roots (DoneFrom g (place + 1)) p m → Comes g roots (DoneIn g place 0) p m
  first_entry = comes_more g roots (DoneFrom g (place + 1)) (DoneIn g place 0) (λ folder m name child done. inl done)

  pub none_before : (p : Names) (m : ℕ) → Comes g roots (DoneIn g place 0) p m → Comes g roots (DoneFrom g (place + 1)) p m
  none_before = comes_more g roots (DoneIn g place 0) (DoneFrom g (place + 1)) (λ folder m name child done. ⊎_elim
      (λ (d : DoneFrom g (place + 1) folder name). d)
      (λ (d : IsAmongEntries g place 0 folder name). absurd (omega (arith, d.low)))
      done)

  -- all its entries
  pub all_entries : (p : Names) (m : ℕ) → Comes g roots (DoneIn g place (length (entries_of row))) p m → Comes g roots (DoneFrom g place) p m
  all_entries = comes_more g roots (DoneIn g place (length (entries_of row))) (DoneFrom g place) (λ folder m name child done. ⊎_elim
      (λ (d : DoneFrom g (place + 1) folder name). record { at = d.at; row = d.row; from = omega (arith, d.from); is = d.is })
      (λ (d : IsAmongEntries g place (length (entries_of row)) folder name). record { at = place; row = d.row; from = omega arith; is = d.is })
      done)

  pub from_entries : (p : Names) (m : ℕ) → Comes g roots (DoneFrom g place) p m → Comes g roots (DoneIn g place (length (entries_of row))) p m
  from_entries = comes_more g roots (DoneFrom g place) (DoneIn g place (length (entries_of row))) (λ folder m name child done. ⊎_elim
      (λ (lt : place < done.at). inl (record { at = done.at; row = done.row; from = omega (arith, lt); is = done.is }))
      (λ (le : done.at ≤ place). at_this folder m name child done (let from = done.from in omega (arith, from, le)))
      (cases_lt place done.at))
    where
      at_this : (folder m : ℕ) (name : List ℕ) → child_of (node g folder) name ≡ Some m → (done : DoneFrom g place folder name) → done.at ≡ place → DoneIn g place (length (entries_of row)) folder name
      at_this folder m name child done e =
          let at : slice_get g place ≡ Some (folder, done.row) = subst (λ k. slice_get g k ≡ Some (folder, done.row)) e done.is in
          let same = same_row folder done.row at in
          let named : child_named (entries_of row) name ≡ Some m = sym (ap (λ (o : Option NodeRow). child_of o name) (subst (λ k. node g k ≡ Some row) same.0 here)) ∙ child in
          let entry = entry_of (entries_of row) name m named in
          inr (record {
            row = row;
            is = at ∙ ap (λ (r : NodeRow). Some (folder, r)) (sym same.1);
            at = entry.at;
            child = m;
            low = slice_get_within (entries_of row) entry.at (record { name = name; node = m }) entry.is;
            named = entry.is;
          })

  -- a folder that stands nowhere brings none of its entries anywhere
  pub nowhere : ((p : Names) → Comes g roots (DoneFrom g (place + 1)) p n → ⊥) → (p : Names) (m : ℕ) → Comes g roots (DoneFrom g place) p m → Comes g roots (DoneFrom g (place + 1)) p m
  nowhere none p m (inl root) = inl root
  nowhere none p m (inr by) = ⊎_elim
      (λ (lt : place < by.done.at). inr (record { folder = by.folder; path = by.path; name = by.name; is = by.is; stands = by.stands; child = by.child; low = by.low; done = record { at = by.done.at; row = by.done.row; from = omega (arith, lt); is = by.done.is } }))
      (λ (le : by.done.at ≤ place).
      let e : by.done.at ≡ place = (let from = by.done.from in omega (arith, from, le)) in
      let same = same_row by.folder by.done.row (subst (λ k. slice_get g k ≡ Some (by.folder, by.done.row)) e by.done.is) in
      absurd (none by.path (stands_before by.path (subst (λ k. NodeStandsAt g roots by.path k) (sym same.0) by.stands))))
      (cases_lt place by.done.at)

  pub more_done : (p : Names) (m : ℕ) → Comes g roots (DoneFrom g (place + 1)) p m → Comes g roots (DoneFrom g place) p m
  more_done = comes_more g roots (DoneFrom g (place + 1)) (DoneFrom g place) (λ folder m name child done. record { at = done.at; row = done.row; from = (let from = done.from in omega (arith, from)); is = done.is })

  module _ (entry : ℕ) (child : Child) (rise : NamesRise (entries_of row)) (at : slice_get (entries_of row) entry ≡ Some child) where
    more_in : (p : Names) (m : ℕ) → Comes g roots (DoneIn g place entry) p m → Comes g roots (DoneIn g place (entry + 1)) p m
    more_in = comes_more g roots (DoneIn g place entry) (DoneIn g place (entry + 1)) (λ folder m name named done. ⊎_elim
        (λ (d : DoneFrom g (place + 1) folder name). inl d)
        (λ (d : IsAmongEntries g place entry folder name). inr (record { row = d.row; is = d.is; at = d.at; child = d.child; low = (let low = d.low in omega (arith, low)); named = d.named }))
        done)

    -- it comes to its place by this entry, or it has before
    record ByEntry (p : Names) (m : ℕ) : Type 0 where
      number : m ≡ child.node
      low : m < n
      path : Names
      stands : NodeStandsAt g roots path n
      longer : p ≡ path ++ child.name ∷ []

    by_entry : (p : Names) (m : ℕ) → Comes g roots (DoneIn g place (entry + 1)) p m → Comes g roots (DoneIn g place entry) p m ⊎ ByEntry p m
    by_entry p m (inl root) = inl (inl root)
    by_entry p m (inr by) = ⊎_elim
        (λ (d : DoneFrom g (place + 1) by.folder by.name). inl (inr (record { folder = by.folder; path = by.path; name = by.name; is = by.is; stands = by.stands; child = by.child; low = by.low; done = inl d })))
        (λ (d : IsAmongEntries g place (entry + 1) by.folder by.name). ⊎_elim
        (λ (lt : d.at < entry). inl (inr (record { folder = by.folder; path = by.path; name = by.name; is = by.is; stands = by.stands; child = by.child; low = by.low; done = inr (record { row = d.row; is = d.is; at = d.at; child = d.child; low = lt; named = d.named }) })))
        (λ (le : entry ≤ d.at).
        let e : d.at ≡ entry = (let low = d.low in omega (arith, low, le)) in
        let same = same_row by.folder d.row d.is in
        let named : slice_get (entries_of row) entry ≡ Some (record { name = by.name; node = d.child }) = subst (λ (r : NodeRow). slice_get (entries_of r) entry ≡ Some (record { name = by.name; node = d.child })) (sym same.1) (subst (λ k. slice_get (entries_of d.row) k ≡ Some (record { name = by.name; node = d.child })) e d.named) in
        let both : Some child ≡ Some (record { name = by.name; node = d.child }) = sym at ∙ named in
        let entry_is : child ≡ record { name = by.name; node = d.child } = cc in
        let called : child.name ≡ by.name = ap (λ (c : Child). c.name) entry_is in
        let found : child_of (node g by.folder) by.name ≡ Some child.node
        = subst (λ (x : List ℕ). child_of (node g by.folder) x ≡ Some child.node) called (subst (λ k. child_of (node g k) child.name ≡ Some child.node) same.0 (ap (λ (o : Option NodeRow). child_of o child.name) here ∙ named_at (entries_of row) entry child rise at)) in
        let number : m ≡ child.node = (let two : Some m ≡ Some child.node = sym by.child ∙ found in cc) in
        inr (record { number = number; low = subst (λ k. m < k) (sym same.0) by.low; path = by.path; stands = subst (λ k. NodeStandsAt g roots by.path k) (sym same.0) by.stands; longer = by.is ∙ ap (λ (x : List ℕ). by.path ++ x ∷ []) (sym called) }))
        (cases_lt d.at entry))
        by.done

    -- an entry that names a lower number brings it beneath each place of the folder
    abbrev pub Beneath : Names → Type 0
    Beneath p = (path : Names) × (NodeStandsAt g roots path n) × (p ≡ path ++ child.name ∷ [])

    pub entry_grows : child.node < n → Grows (Comes g roots (DoneIn g place entry)) (Comes g roots (DoneIn g place (entry + 1))) Beneath child.node
    entry_grows low = record {
      keeps = more_in;
      adds = λ p new. inr (record {
        folder = n;
        path = new.0;
        name = child.name;
        is = new.2;
        stands = new.1;
        child = ap (λ (o : Option NodeRow). child_of o child.name) here ∙ named_at (entries_of row) entry child rise at;
        low = low;
        done = inr (record { row = row; is = is; at = entry; child = child.node; low = omega arith; named = at });
      });
      only = λ p m after. ⊎_elim
          (λ (old : Comes g roots (DoneIn g place entry) p m). inl old)
          (λ (by : ByEntry p m). inr (by.number, (by.path, by.stands, by.longer)))
          (by_entry p m after);
    }

    -- another leads nowhere
    pub entry_skipped : n ≤ child.node → (p : Names) (m : ℕ) → Comes g roots (DoneIn g place (entry + 1)) p m → Comes g roots (DoneIn g place entry) p m
    entry_skipped high p m after = ⊎_elim
        (λ (old : Comes g roots (DoneIn g place entry) p m). old)
        (λ (by : ByEntry p m). absurd (let low = by.low in let number = by.number in omega (arith, low, number, high)))
        (by_entry p m after)

    pub entry_keeps : (p : Names) (m : ℕ) → Comes g roots (DoneIn g place entry) p m → Comes g roots (DoneIn g place (entry + 1)) p m
    entry_keeps = more_in
