-- Where nodes are found to stand, by numbered paths.
use Rattle.std.specs.Prelude.{◌≡◌, ◌<◌, ◌≤◌, ◌+◌, ◌==◌, ◌⊎◌, ℕ, true, nat_eq, if◌then◌else◌, Option, Some, None, List, [], ◌∷◌, ◌++◌, length, slice_get}
use Rattle.std.specs.declared.cmp.Ordering.{Ordering}
use Rattle.std.specs.Ordering.{nat_cmp, ordering_then}
use Rattle.std.specs.BTreeMap.{is_at, get}
use Rattle.std.specs.List.Sorted.{IsStrictlySortedBy}
use Rattle.std.specs.Map.{keys_of}
use Rattle.std.specs.Set.{is_member}
use Rattle.tm_base.specs.Limits.{max_names}
use Rattle.tm_base.specs.Paths.{Names, name_cmp}
use Rattle.tm_tree.specs.declared.node.NodeRow.{NodeRow}
use Rattle.tm_tree.specs.declared.node.Child.{Child}
use Rattle.tm_graph.specs.Nodes.{Nodes, node, entries_of, NamesRise}
use Rattle.tm_graph.specs.Trees.{child_of}
use Rattle.tm_store_records.specs.declared.locations.Location.{Location}
use Rattle.tm_store_records.specs.declared.locations.Location.TheVariants.{At, Misplaced}
use Rattle.tm_store_records.specs.declared.locations.Locations.{Locations}
use Rattle.tm_store_records.specs.declared.locations.Step.{Step}
use Rattle.tm_store_records.specs.Places.{NodeStandsAt}

-- steps by the path's number, and then by name
abbrev pub step_cmp : Step → Step → Ordering
step_cmp a b = ordering_then (nat_cmp a.path b.path) (name_cmp a.name b.name)

abbrev pub step_of : ℕ → List ℕ → Step
step_of path name = record { path = path; name = name }

-- ---- one path more

-- the step leads to the path of this number; if it led nowhere before, it is a new one
pub record StepLeads (old new : Step → Option ℕ) (count count_after : ℕ) (s : Step) (id : ℕ) : Type 0 where
  pub known : (i : ℕ) → old s ≡ Some i → (id ≡ i) × (count_after ≡ count) × ((q : Step) → new q ≡ old q)
  pub fresh : old s ≡ None → (id ≡ count) × (count_after ≡ count + 1) × ((q : Step) → new q ≡ (if is_at (step_cmp s) q then Some count else old q))

-- ---- one place more

-- a location with a place more, at the path of this number
abbrev pub location_with : Option Location → ℕ → ℕ → Location
location_with None path depth = At path depth
location_with (Some (At other far)) path depth = if other == path then At other far else Misplaced
location_with (Some Misplaced) path depth = Misplaced

-- ---- what the locations say

-- a number that doesn't stand at one path of at most `max_names` names, though it stands somewhere
abbrev pub IsMisplaced : Nodes → List ℕ → ℕ → Type 0
IsMisplaced g roots n = ((p : Names) → NodeStandsAt g roots p n → length p ≤ max_names) → ((p q : Names) → NodeStandsAt g roots p n → NodeStandsAt g roots q n → p ≡ q) → ⊥

-- the number stands there by a last step from the folder at one of the places from this one on, or is a root
pub record ComesBy (g : Nodes) (roots : List ℕ) (Done : ℕ → List ℕ → Type 0) (p : Names) (n : ℕ) : Type 0 where
  pub folder : ℕ
  pub path : Names
  pub name : List ℕ
  pub is : p ≡ path ++ name ∷ []
  pub stands : NodeStandsAt g roots path folder
  pub child : child_of (node g folder) name ≡ Some n
  pub low : n < folder
  pub done : Done folder name

abbrev pub Comes : Nodes → List ℕ → (ℕ → List ℕ → Type 0) → Names → ℕ → Type 0
Comes g roots Done p n = ((p ≡ []) × (is_member nat_eq roots n ≡ true)) ⊎ ComesBy g roots Done p n

-- the folder stands at one of the places from this one on
pub record DoneFrom (g : Nodes) (place folder : ℕ) (name : List ℕ) : Type 0 where
  pub at : ℕ
  pub row : NodeRow
  pub from : place ≤ at
  pub is : slice_get g at ≡ Some (folder, row)

-- or it stands before them, and the name is one of its first entries
pub record IsAmongEntries (g : Nodes) (place entry folder : ℕ) (name : List ℕ) : Type 0 where
  pub row : NodeRow
  pub is : slice_get g place ≡ Some (folder, row)
  pub at : ℕ
  pub child : ℕ
  pub low : at < entry
  pub named : slice_get (entries_of row) at ≡ Some (record { name = name; node = child })

abbrev pub DoneIn : Nodes → ℕ → ℕ → ℕ → List ℕ → Type 0
DoneIn g place entry folder name = DoneFrom g (place + 1) folder name ⊎ IsAmongEntries g place entry folder name

-- the path of number `id` is the step's path and its name
pub record Extends (paths : List Names) (s : Step) (id : ℕ) : Type 0 where
  pub path : Names
  pub from : slice_get paths s.path ≡ Some path
  pub to : slice_get paths id ≡ Some (path ++ s.name ∷ [])

-- at the path of this number, and nowhere else
pub record IsAtOne (g : Nodes) (roots : List ℕ) (Came : Names → ℕ → Type 0) (paths : List Names) (id depth n : ℕ) : Type 0 where
  pub path : Names
  pub is : slice_get paths id ≡ Some path
  pub long : length path ≡ depth
  pub near : depth ≤ max_names
  pub came : Came path n
  pub only : (q : Names) → Came q n → q ≡ path

-- the steps lead to these paths, and each path has one number
pub record AreNumberedPaths (paths : List Names) (ids : Step → Option ℕ) (count : ℕ) : Type 0 where
  pub size : length paths ≡ count
  pub first : slice_get paths 0 ≡ Some []
  pub told : (s : Step) (id : ℕ) → ids s ≡ Some id → Extends paths s id
  pub known : (s : Step) (id : ℕ) → Extends paths s id → ids s ≡ Some id
  pub distinct : (i j : ℕ) (p : Names) → slice_get paths i ≡ Some p → slice_get paths j ≡ Some p → i ≡ j
  pub closed : (i : ℕ) (p : Names) (name : List ℕ) → slice_get paths i ≡ Some (p ++ name ∷ []) → (k : ℕ) × (slice_get paths k ≡ Some p)

-- the locations say where numbers have come to stand
pub record AreLocations (g : Nodes) (roots : List ℕ) (Came : Names → ℕ → Type 0) (locations : ℕ → Option Location) (ids : Step → Option ℕ) (count : ℕ) : Type 0 where
  pub paths : List Names
  pub numbered : AreNumberedPaths paths ids count
  pub none : (n : ℕ) → locations n ≡ None → (p : Names) → Came p n → ⊥
  pub one : (n id depth : ℕ) → locations n ≡ Some (At id depth) → IsAtOne g roots Came paths id depth n
  pub misplaced : (n : ℕ) → locations n ≡ Some Misplaced → IsMisplaced g roots n

-- ---- one step of the walk

-- the locations that are kept say this
abbrev pub LocationsTell : Nodes → List ℕ → (Names → ℕ → Type 0) → Locations → Type 0
LocationsTell g roots Came s = AreLocations g roots Came (λ n. get nat_cmp s.locations n) (λ q. get step_cmp s.paths q) s.count

-- the folder at this place has this entry
pub record IsEntryAt (g : Nodes) (place entry number : ℕ) (child : Child) : Type 0 where
  pub row : NodeRow
  pub sorted : IsStrictlySortedBy nat_cmp (keys_of g)
  pub is : slice_get g place ≡ Some (number, row)
  pub rise : NamesRise (entries_of row)
  pub named : slice_get (entries_of row) entry ≡ Some child

-- the folder at this place has these entries
abbrev pub AreEntriesAt : Nodes → ℕ → ℕ → List Child → Type 0
AreEntriesAt g place number children = (entry : ℕ) (child : Child) → slice_get children entry ≡ Some child → IsEntryAt g place entry number child

-- a number has come to stand at one path more, which is longer by a name
pub record IsJoined (old new : Locations) (path depth : ℕ) (child : Child) : Type 0 where
  pub id : ℕ
  pub leads : StepLeads (λ q. get step_cmp old.paths q) (λ q. get step_cmp new.paths q) old.count new.count (step_of path child.name) id
  pub puts : (n : ℕ) → get nat_cmp new.locations n ≡ (if nat_eq n child.node then Some (location_with (get nat_cmp old.locations child.node) id (depth + 1)) else get nat_cmp old.locations n)

-- names rise in each folder
abbrev pub AllRise : Nodes → Type 0
AllRise g = (place : ℕ) (e : ℕ × NodeRow) → slice_get g place ≡ Some e → NamesRise (entries_of e.1)
