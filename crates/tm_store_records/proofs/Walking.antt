-- One step of the walk: an entry of a folder.
use Rattle.std.proofs.Common.{◌≡◌, inl, ℕ, ◌+◌, ◌<◌, ◌≤◌, cond, Option, Some, List, [], ◌∷◌, ◌++◌, length, nat_eq, refl, ap, ◌∙◌, arith, length-append}
use Rattle.std.specs.Ordering.{nat_cmp}
use Rattle.std.specs.BTreeMap.{get}
use Rattle.tm_base.specs.Limits.{max_names}
use Rattle.tm_base.specs.Paths.{Names}
use Rattle.tm_tree.specs.declared.node.Child.{Child}
use Rattle.tm_graph.specs.Nodes.{Nodes}
use Rattle.tm_store_records.specs.declared.locations.Location.{Location}
use Rattle.tm_store_records.specs.declared.locations.Location.TheVariants.{At, Misplaced}
use Rattle.tm_store_records.specs.declared.locations.Locations.{Locations}
use Rattle.tm_store_records.specs.declared.locations.Step.{Step}
use Rattle.tm_store_records.specs.Places.{NodeStandsAt}
use Rattle.tm_store_records.specs.Located.{step_cmp, step_of, Comes, DoneFrom, DoneIn, LocationsTell, IsEntryAt, IsJoined, IsMisplaced, AreLocations}
use Rattle.tm_store_records.proofs.Stepping.{a_path_more, last_same}
use Rattle.tm_store_records.proofs.LocationLemmas.{Grows, grows_by, locations_same, locations_longer, joined_put, misplaced_put}
use Rattle.tm_store_records.proofs.ArrivalLemmas.{comes_stands, comes_more, stands_before, entry_grows, entry_skipped, entry_keeps, Beneath}

abbrev pub ids_of : Locations → Step → Option ℕ
ids_of s q = get step_cmp s.paths q

abbrev pub locations_of : Locations → ℕ → Option Location
locations_of s n = get nat_cmp s.locations n

module _ (g : Nodes) (roots : List ℕ) (place entry number : ℕ) (child : Child) (e : IsEntryAt g place entry number child) where
  abbrev Before : Names → ℕ → Type 0
  Before = Comes g roots (DoneIn g place entry)

  abbrev After : Names → ℕ → Type 0
  After = Comes g roots (DoneIn g place (entry + 1))

  -- an entry that doesn't name a lower number
  pub step_skipped : (s : Locations) → number ≤ child.node → LocationsTell g roots Before s → LocationsTell g roots After s
  step_skipped s high tell = locations_same g roots Before After (locations_of s) (ids_of s) s.count
      (entry_keeps g roots place number e.row e.sorted e.is entry child e.rise e.named)
      (entry_skipped g roots place number e.row e.sorted e.is entry child e.rise e.named high) tell

  here_before : (p : Names) → NodeStandsAt g roots p number → Before p number
  here_before p at = comes_more g roots (DoneFrom g (place + 1)) (DoneIn g place entry) (λ folder m name named done. inl done) p number (stands_before g roots place number e.row e.sorted e.is p at)

  module _ (low : child.node < number) where
    grows : Grows Before After (Beneath g roots place number e.row e.sorted e.is entry child e.rise e.named) child.node
    grows = entry_grows g roots place number e.row e.sorted e.is entry child e.rise e.named low

    beneath : (p : Names) → NodeStandsAt g roots p number → NodeStandsAt g roots (p ++ child.name ∷ []) child.node
    beneath p at = comes_stands g roots (DoneIn g place (entry + 1)) (p ++ child.name ∷ []) child.node (grows.adds (p ++ child.name ∷ []) (p, at, refl))

    module _ (old : Locations) (tell : LocationsTell g roots Before old) where
      module _ (new : Locations) (path depth : ℕ) (at : locations_of old number ≡ Some (At path depth)) (joins : IsJoined old new path depth child) (near : depth < max_names) where
        pub step_joined : LocationsTell g roots After new
        step_joined =
            let one = tell.one number path depth at in
            let p : Names = one.path ++ child.name ∷ [] in
            let longer = a_path_more tell.paths (ids_of old) (ids_of new) old.count new.count (step_of path child.name) joins.id one.path tell.numbered one.is joins.leads in
            let long : length p ≡ depth + 1 = (let long = one.long in omega (arith, length-append one.path (child.name ∷ []), long)) in
            joined_put g roots Before After (locations_of old) (locations_of new) (ids_of new) new.count
            (locations_longer g roots Before (locations_of old) (ids_of old) (ids_of new) old.count new.count joins.id p tell longer)
            p joins.id (depth + 1) child.node longer.is long (omega (arith, near))
            (grows_by Before After (Beneath g roots place number e.row e.sorted e.is entry child e.rise e.named) (λ q. q ≡ p) child.node
            (λ q b. b.2 ∙ ap (λ (r : Names). r ++ child.name ∷ []) (one.only b.0 (here_before b.0 b.1)))
            (λ q is. (one.path, comes_stands g roots (DoneIn g place entry) one.path number one.came, is))
            grows)
            (comes_stands g roots (DoneIn g place (entry + 1)))
            joins.puts

      module _ (new : ℕ → Option Location) (puts : (m : ℕ) → new m ≡ cond (nat_eq m child.node) (Some Misplaced) (locations_of old m)) where
        is_misplaced : IsMisplaced g roots child.node → AreLocations g roots After new (ids_of old) old.count
        is_misplaced misplaced = misplaced_put g roots Before After (locations_of old) new (ids_of old) old.count tell (Beneath g roots place number e.row e.sorted e.is entry child e.rise e.named) child.node grows puts misplaced

        -- under a folder that is too deep
        pub step_deep : (path depth : ℕ) → locations_of old number ≡ Some (At path depth) → max_names ≤ depth → AreLocations g roots After new (ids_of old) old.count
        step_deep path depth at deep = is_misplaced (λ short one_path.
            let one = tell.one number path depth at in
            let long = one.long in
            let le = short (one.path ++ child.name ∷ []) (beneath one.path (comes_stands g roots (DoneIn g place entry) one.path number one.came)) in
            absurd (omega (arith, le, long, deep, length-append one.path (child.name ∷ []))))

        -- under a folder that stands misplaced
        pub step_misplaced : locations_of old number ≡ Some Misplaced → AreLocations g roots After new (ids_of old) old.count
        step_misplaced at = is_misplaced (λ short one_path. tell.misplaced number at
            (λ p here. let le = short (p ++ child.name ∷ []) (beneath p here) in omega (arith, le, length-append p (child.name ∷ [])))
            (λ p q a b. (last_same p q child.name child.name (one_path (p ++ child.name ∷ []) (q ++ child.name ∷ []) (beneath p a) (beneath q b))).0))
