-- A root and its slot, part by part.
use Rattle.std.proofs.Common.{◌≡◌, ℕ, ◌+◌, ◌<◌, ◌≤◌, ⊎_elim, List, [], ◌∷◌, ◌++◌, length, get_or, take, drop, replicate, true, sym, ◌∙◌, ap, arith}
use Rattle.std.proofs.Math.Seq.{take-add}
use Rattle.std.proofs.lemmas.Bool.{cases_lt}
use Rattle.std.proofs.lemmas.List.{drop_more, take_all, take_at, length-take-le, length-drop, get_or-take, get_or-drop, get_or_past}
use Rattle.tm_codec.specs.Fields.{u32_text, u64_text}
use Rattle.tm_codec.specs.Places.{IsTextAt}
use Rattle.tm_gate.specs.declared.root.Root.{Root}
use Rattle.tm_gate.specs.Slot.{magic, slot_of}
use Rattle.tm_gate.specs.Fields.{bytes_at, is_kept, zeros}
use Rattle.tm_codec.proofs.Fields.{length-u32_text, length-u64_text}
use Rattle.tm_gate.proofs.Numbers.{zeros_from}
use Rattle.tm_gate.proofs.Kept.{bounds}

pub length-bytes_at : (at size : ℕ) (s : List ℕ) → at + size ≤ length s → length (bytes_at at size s) ≡ size
length-bytes_at at size s within = length-take-le size (drop at s) (omega (arith, length-drop at s))

pub small_at : (at size : ℕ) (s : List ℕ) → at + size ≤ length s → ((i : ℕ) → get_or s i 0 < 256) → (i : ℕ) → get_or (bytes_at at size s) i 0 < 256
small_at at size s within small i = ⊎_elim
    (λ (lt : i < size). omega (arith, get_or-take size (drop at s) i 0 lt, get_or-drop at s i 0, small (at + i)))
    (λ (ge : size ≤ i). omega (arith, get_or_past (bytes_at at size s) i 0 (omega (arith, length-bytes_at at size s within))))
    (cases_lt i size)

-- a part that no number but 0 keeps
pub zero_bytes : (at size : ℕ) (s : List ℕ) → at + size ≤ length s → is_kept s (zeros at size) ≡ true → bytes_at at size s ≡ replicate size 0
zero_bytes at size s within kept = zeros_from (bytes_at at size s) size (length-bytes_at at size s within) (omega (arith, bounds s (zeros at size) kept))

pub u32_at : (at n : ℕ) (s : List ℕ) → IsTextAt (u32_text n) at s → u32_text n ≡ bytes_at at 4 s
u32_at at n s stands = sym (ap (take 4) stands ∙ take_at (u32_text n) _ 4 (length-u32_text n))

pub u64_at : (at n : ℕ) (s : List ℕ) → IsTextAt (u64_text n) at s → u64_text n ≡ bytes_at at 8 s
u64_at at n s stands = sym (ap (take 8) stands ∙ take_at (u64_text n) _ 8 (length-u64_text n))

two_at : (s : List ℕ) → length s ≡ 4096 → bytes_at 8 2 s ≡ get_or s 8 0 ∷ get_or s 9 0 ∷ []
two_at s long = ap (take 2) (drop_more s 8 0 (omega arith) ∙ ap (λ r. get_or s 8 0 ∷ r) (drop_more s 9 0 (omega arith)))

-- a slot whose parts are a root's is its slot
pub slot_from_parts : (s : List ℕ) (root : Root) → length s ≡ 4096 → take 8 s ≡ magic → root.kind ≡ get_or s 8 0 → root.version ≡ get_or s 9 0
    → is_kept s (zeros 10 2) ≡ true → u32_text root.first ≡ bytes_at 12 4 s → u64_text root.sequence ≡ bytes_at 16 8 s
    → u64_text root.table_len ≡ bytes_at 24 8 s → root.tag ≡ bytes_at 32 64 s → is_kept s (zeros 96 4000) ≡ true → s ≡ slot_of root
unfolding slot_of
slot_from_parts s root long is_magic kind version gap first sequence table_len tag rest =
    let p10 : take 10 s ≡ magic ++ root.kind ∷ root.version ∷ [] =
    take-add 8 2 s ∙ (λ i. is_magic i ++ two_at s long i) ∙ (λ i. magic ++ sym kind i ∷ sym version i ∷ []) in
    let p12 : take 12 s ≡ magic ++ root.kind ∷ root.version ∷ [] ++ replicate 2 0 =
    take-add 10 2 s ∙ (λ i. p10 i ++ zero_bytes 10 2 s (omega arith) gap i) in
    let p16 : take 16 s ≡ magic ++ root.kind ∷ root.version ∷ [] ++ replicate 2 0 ++ u32_text root.first =
    take-add 12 4 s ∙ (λ i. p12 i ++ sym first i) in
    let p24 : take 24 s ≡ magic ++ root.kind ∷ root.version ∷ [] ++ replicate 2 0 ++ u32_text root.first ++ u64_text root.sequence =
    take-add 16 8 s ∙ (λ i. p16 i ++ sym sequence i) in
    let p32 : take 32 s ≡ magic ++ root.kind ∷ root.version ∷ [] ++ replicate 2 0 ++ u32_text root.first ++ u64_text root.sequence ++ u64_text root.table_len =
    take-add 24 8 s ∙ (λ i. p24 i ++ sym table_len i) in
    sym (take_all 4096 s (omega arith)) ∙ take-add 96 4000 s
    ∙ (λ i. take-add 32 64 s i ++ zero_bytes 96 4000 s (omega arith) rest i)
    ∙ (λ i. (p32 i ++ sym tag i) ++ replicate 4000 0)
