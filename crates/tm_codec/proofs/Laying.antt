-- Parts laid over zeros, one after another: what `block[a..b].copy_from_slice(part)` leaves.
use Rattle.std.proofs.Common.{◌≡◌, ℕ, ◌+◌, ◌-◌, List, ◌++◌, length, take, drop, replicate, sym, ◌∙◌, ap, arith, length-append, append_assoc}
use Rattle.std.proofs.lemmas.List.{take_at, drop_at, drop-replicate, replicate-append-replicate}
use Rattle.tm_codec.specs.Padded.{padded}
use borrow.Rule.Slice.PartMut.{put_mid, post_of}

-- the first part
pub filled : (n a : ℕ) (block part x : List ℕ) → block ≡ replicate n 0 → a ≡ length part → x ≡ part → x ++ post_of 0 a block ≡ padded n part
filled n a block part x zeros len is =
    ap (λ p. p ++ drop a block) is ∙ ap (λ z. part ++ z) (ap (drop a) zeros ∙ drop-replicate a n 0) ∙ ap (λ k. part ++ replicate (n - k) 0) len

-- the next part, from where the last one ends
pub laid_next : (n a k : ℕ) (block front part x : List ℕ) → block ≡ padded n front → length front ≡ a → k ≡ length part → x ≡ part → put_mid a k block x ≡ padded n (front ++ part)
laid_next n a k block front part x is len same xs =
    let zeros : List ℕ = replicate (n - length front) 0 in
    let t : take a block ≡ front = ap (take a) is ∙ take_at front zeros a len in
    let d : drop a block ≡ zeros = ap (drop a) is ∙ drop_at front zeros a len in
    ap (λ f. f ++ (x ++ drop k (drop a block))) t ∙ ap (λ p. front ++ (p ++ drop k (drop a block))) xs
    ∙ ap (λ r. front ++ (part ++ r)) (ap (drop k) d ∙ drop-replicate k (n - length front) 0)
    ∙ sym (append_assoc front part (replicate (n - length front - k) 0))
    ∙ ap (λ j. (front ++ part) ++ replicate j 0) (omega (arith, length-append front part))

-- two parts
pub laid : (n a k : ℕ) (block front part x y : List ℕ) → block ≡ replicate n 0 → a ≡ length front → k ≡ length part → x ≡ front → y ≡ part
    → put_mid a k (x ++ post_of 0 a block) y ≡ padded n (front ++ part)
laid n a k block front part x y zeros len same xs ys =
    laid_next n a k _ front part y (filled n a block front x zeros len xs) (sym len) same ys

-- three parts
pub laid_as : (n a p k q : ℕ) (block front part last x y z : List ℕ) → block ≡ replicate n 0 → a ≡ length front → k ≡ length part → p ≡ a + k → q ≡ length last → x ≡ front → y ≡ part → z ≡ last
    → put_mid p q (put_mid a k (x ++ post_of 0 a block) y) z ≡ padded n ((front ++ part) ++ last)
laid_as n a p k q block front part last x y z zeros len same place many xs ys zs =
    laid_next n p q _ (front ++ part) last z (laid n a k block front part x y zeros len same xs ys) (omega (arith, length-append front part)) many zs

-- ---- zeros behind

-- a part more, where zeros stood
pub lay : (a n m : ℕ) (s front part : List ℕ) → s ≡ front ++ replicate m 0 → length front ≡ a → put_mid a n s part ≡ (front ++ part) ++ replicate (m - n) 0
lay a n m s front part is len =
    let t : take a s ≡ front = ap (take a) is ∙ take_at front (replicate m 0) a len in
    let d : drop a s ≡ replicate m 0 = ap (drop a) is ∙ drop_at front (replicate m 0) a len in
    ap (λ f. f ++ (part ++ drop n (drop a s))) t ∙ ap (λ r. front ++ (part ++ r)) (ap (drop n) d ∙ drop-replicate n m 0) ∙ sym (append_assoc front part (replicate (m - n) 0))

-- a gap of zeros
pub skip : (k m : ℕ) (s front : List ℕ) → s ≡ front ++ replicate (k + m) 0 → s ≡ (front ++ replicate k 0) ++ replicate m 0
skip k m s front is = is ∙ ap (λ r. front ++ r) (sym (replicate-append-replicate k m 0)) ∙ sym (append_assoc front (replicate k 0) (replicate m 0))
