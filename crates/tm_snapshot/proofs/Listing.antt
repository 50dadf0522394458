-- One more among the records that are put.
use Rattle.std.proofs.Common.{suc, ◌≡◌, true, is_some, ℕ, ◌+◌, ◌<◌, List, [], ◌∷◌, ◌++◌, length, take, get_or, map, refl, sym, ap, ◌∙◌, append_assoc, arith, subst}
use Rattle.std.specs.List.{All, filter_map, flat_map, range_with_len}
use Rattle.std.proofs.lemmas.List.{take_more, append-nil}
use Rattle.std.proofs.lemmas.List.Elements.{filter_map-append}
use Rattle.std.proofs.lemmas.List.FromFn.{map-range_with_len_more}
use Rattle.std.proofs.lemmas.Grind.{flat_map-append}
use Rattle.tm_world.specs.declared.bytes.Blob.{Blob}
use Rattle.tm_records.specs.declared.record.Body.TheVariants.{New}
use Rattle.tm_records.specs.declared.record.Put.{Put}
use Rattle.tm_tree.specs.declared.node.Child.{Child}
use Rattle.tm_graph.specs.Nodes.{Nodes, node}
use Rattle.tm_snapshot.specs.Puts.{old_put, old_puts, root_puts, puts_at, tree_puts, file_puts, node_put}

pub old_puts_more : (g : Nodes) (last : ℕ) (es : List Child) (i : ℕ) (d : Child) → i < length es
    → old_puts g last (take (i + 1) es) ≡ old_puts g last (take i es) ++ root_puts g last (get_or es i d).node
old_puts_more g last es i d l =
    let f = λ (c : Child). old_put g last c.node in
    ap (filter_map f) (take_more es i d l) ∙ filter_map-append f (take i es) (get_or es i d ∷ [])

pub tree_puts_more : (g : Nodes) (last n : ℕ) → tree_puts g last (n + 1) ≡ tree_puts g last n ++ puts_at g last (last + 1 + n) (node g (last + 1 + n))
tree_puts_more g last n =
    let f = λ (m : ℕ). puts_at g last m (node g m) in
    let id = λ (ps : List Put). ps in
    ap (flat_map id) (map-range_with_len_more f (last + 1) n (last + 1 + n) refl)
    ∙ flat_map-append id (map f (range_with_len (last + 1) n)) (f (last + 1 + n) ∷ [])
    ∙ ap (λ (ps : List Put). tree_puts g last n ++ ps) (append-nil (f (last + 1 + n)))

-- a step that adds these to what there was
pub one_step : {X : Type 0} (now next before done here all : List X) → next ≡ now ++ here → now ≡ before ++ done → all ≡ done ++ here → next ≡ before ++ all
one_step {X} now next before done here all more so_far is = more ∙ ap (λ (ps : List X). ps ++ here) so_far ∙ append_assoc before done here ∙ ap (λ (ps : List X). before ++ ps) (sym is)

-- a file more
pub files_step : (g : Nodes) (now next : List Put) (n : ℕ) (blob : Blob) (rest left : List (ℕ × Blob)) (put : Put) (all : List Put) → left ≡ (n, blob) ∷ rest → now ++ file_puts g left ≡ all
    → put ≡ node_put g n (New blob) → next ≡ now ++ put ∷ [] → next ++ file_puts g rest ≡ all
files_step g now next n blob rest left put all is so_far made more =
    ap (λ (ps : List Put). ps ++ file_puts g rest) more ∙ append_assoc now (put ∷ []) (file_puts g rest) ∙ ap (λ (p : Put). now ++ p ∷ file_puts g rest) made
    ∙ ap (λ (bs : List (ℕ × Blob)). now ++ file_puts g bs) (sym is) ∙ so_far

pub files_rest : (g : Nodes) (n : ℕ) (blob : Blob) (rest left : List (ℕ × Blob)) → left ≡ (n, blob) ∷ rest → All (λ b. is_some (node g b.0) ≡ true) left → (is_some (node g n) ≡ true) × All (λ b. is_some (node g b.0) ≡ true) rest
files_rest g n blob rest left is all =
    let both = subst (λ (bs : List (ℕ × Blob)). All (λ b. is_some (node g b.0) ≡ true) bs) is all in
    (both 0 (n, blob) (omega arith), λ k d low. both (suc k) d (omega (arith, low)))
