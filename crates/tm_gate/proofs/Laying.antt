-- The parts of a slot, laid one after another over zeros.
use Rattle.std.proofs.Common.{◌≡◌, ℕ, ◌+◌, ◌-◌, List, [], ◌∷◌, ◌++◌, length, take, drop, replicate, refl, sym, ◌∙◌, ap, arith, length-append, append_assoc}
use Rattle.std.proofs.lemmas.List.{take_at, drop_at, drop-replicate, replicate-append-replicate}
use Rattle.std.specs.Int.{w32, w64, to_be_bytes}
use borrow.Rule.Slice.PartMut.{put_mid, post_of}
use Rattle.tm_codec.specs.Fields.{u32_text, u64_text}
use Rattle.tm_codec.proofs.Laying.{lay, skip}
use Rattle.tm_gate.specs.declared.root.Root.{Root}
use Rattle.tm_gate.specs.Slot.{magic, slot_of}

laid_parts : (s m h f q l t : List ℕ) → s ≡ replicate 4096 0 → length m ≡ 8 → length h ≡ 2 → length f ≡ 4 → length q ≡ 8 → length l ≡ 8
    → put_mid 32 64 (put_mid 24 8 (put_mid 16 8 (put_mid 12 4 (put_mid 8 2 (m ++ post_of 0 8 s) h) f) q) l) t
    ≡ (((((m ++ h) ++ replicate 2 0) ++ f) ++ q) ++ l) ++ t ++ replicate 4000 0
laid_parts s m h f q l t zeros lm lh lf lq ll =
    let s1 : m ++ post_of 0 8 s ≡ m ++ replicate 4088 0 = ap (λ r. m ++ drop 8 r) zeros ∙ ap (λ r. m ++ r) (drop-replicate 8 4096 0) in
    let s2 = lay 8 2 4088 _ m h s1 lm in
    let l2 : length (m ++ h ++ replicate 2 0) ≡ 12 = omega (arith, length-append (m ++ h) (replicate 2 0), length-append m h) in
    let s3 = lay 12 4 4084 _ _ f (skip 2 4084 _ (m ++ h) s2) l2 in
    let l3 : length (m ++ h ++ replicate 2 0 ++ f) ≡ 16 = omega (arith, length-append (m ++ h ++ replicate 2 0) f) in
    let s4 = lay 16 8 4080 _ _ q s3 l3 in
    let l4 : length (m ++ h ++ replicate 2 0 ++ f ++ q) ≡ 24 = omega (arith, length-append (m ++ h ++ replicate 2 0 ++ f) q) in
    let s5 = lay 24 8 4072 _ _ l s4 l4 in
    let l5 : length (m ++ h ++ replicate 2 0 ++ f ++ q ++ l) ≡ 32 = omega (arith, length-append (m ++ h ++ replicate 2 0 ++ f ++ q) l) in
    lay 32 64 4064 _ _ t s5 l5

pub laid : (root : Root) (s x h f q l t : List ℕ) → s ≡ replicate 4096 0 → x ≡ magic → h ≡ root.kind ∷ root.version ∷ [] → f ≡ to_be_bytes w32 root.first
    → q ≡ to_be_bytes w64 root.sequence → l ≡ to_be_bytes w64 root.table_len → t ≡ root.tag
    → put_mid 32 64 (put_mid 24 8 (put_mid 16 8 (put_mid 12 4 (put_mid 8 2 (x ++ post_of 0 8 s) h) f) q) l) t ≡ slot_of root
unfolding slot_of u32_text u64_text
laid root s x h f q l t zeros ex eh ef eq el et =
    (λ i. put_mid 32 64 (put_mid 24 8 (put_mid 16 8 (put_mid 12 4 (put_mid 8 2 (ex i ++ post_of 0 8 s) (eh i)) (ef i)) (eq i)) (el i)) (et i))
    ∙ laid_parts s magic (root.kind ∷ root.version ∷ []) (to_be_bytes w32 root.first) (to_be_bytes w64 root.sequence) (to_be_bytes w64 root.table_len) root.tag zeros refl refl refl refl refl
