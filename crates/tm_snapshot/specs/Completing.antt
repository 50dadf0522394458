-- What a finished backup makes of a store in memory.
use Rattle.std.specs.Prelude.{◌≡◌, ◌+◌, ◌++◌, ◌∷◌, ℕ, [], nat_lt, Option, Some, None, List, length}
use Rattle.tm_base.specs.Limits.{max_nodes}
use Rattle.tm_base.specs.declared.refused.Refused.{Refused}
use Rattle.tm_base.specs.declared.refused.Refused.TheVariants.{Full}
use Rattle.tm_tree.specs.Refusing.{Tests, first_refused, too_many}
use Rattle.tm_tree.specs.declared.rows.Mark.{Mark}
use Rattle.tm_graph.specs.declared.built.Built.{Built}
use Rattle.tm_graph.specs.Growing.{grown}
use Rattle.tm_image.specs.Room.{free_of, need_of}
use Rattle.tm_store_records.specs.Held.{Held, store_stored_on}
use Rattle.tm_store_records.specs.States.{StoredStore}
use Rattle.tm_store_records.specs.Built.{snapshot_built, all_nodes, store_completed}
use Rattle.tm_store_records.specs.Room.{store_blocks}

-- the new nodes with exact links, a snapshot more, the next number, and no date; nothing is staged
pub record IsCompleted (old new : Held) (built : Built) (date : ℕ) (volume : List ℕ) (id : ℕ) (mark : Mark) : Type 0 where
  pub nodes : new.nodes ≡ grown old.nodes built.nodes built.root
  pub machine : new.machine ≡ old.machine
  pub snapshots : new.snapshots ≡ old.snapshots ++ snapshot_built old built date volume id mark ∷ []
  pub running : new.running ≡ None
  pub stored : new.stored ≡ None
  pub number : new.number ≡ old.number + 1
  pub staged : new.staged ≡ []

-- ---- when it may not finish

-- how many nodes there would be
abbrev pub count_after : Held → Built → ℕ
count_after h built = length h.nodes + length built.nodes

-- how many free blocks the commit needs: it releases none
abbrev pub need_after : Held → Built → ℕ → List ℕ → ℕ → Mark → ℕ
need_after h built date volume id mark =
    need_of (store_blocks h.machine h.snapshots h.nodes) (store_blocks h.machine (h.snapshots ++ snapshot_built h built date volume id mark ∷ []) (all_nodes h built)) 0

-- too many nodes, and then no room
abbrev pub complete_tests : Held → Built → ℕ → List ℕ → ℕ → Mark → Tests
complete_tests h built date volume id mark =
    let need = need_after h built date volume id mark in let free = free_of h.image in
    too_many max_nodes (count_after h built) ++ (nat_lt free need, Full need free) ∷ []

-- why a backup may not finish, if it may not
abbrev pub complete_refusal : Held → Built → ℕ → List ℕ → ℕ → Mark → Option Refused
complete_refusal h built date volume id mark = first_refused (complete_tests h built date volume id mark)

-- ---- what stands on the image

abbrev pub unless_refusal : Option Refused → StoredStore → StoredStore → StoredStore
unless_refusal None old new = new
unless_refusal (Some why) old new = old

-- the store with the snapshot and no date, or as it was
abbrev pub after_complete : Held → Built → ℕ → List ℕ → ℕ → Mark → (ℕ → List ℕ) → StoredStore
after_complete h built date volume id mark bytes =
    unless_refusal (complete_refusal h built date volume id mark) (store_stored_on h bytes) (record { store = store_completed h built date volume id mark bytes; running = None })
