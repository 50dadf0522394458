-- Records between keys, and their text.
use Rattle.std.proofs.Common.{◌≡◌, ◌⊎◌, inl, inr, if◌then◌else◌, ⊎_elim, ℕ, suc, ◌+◌, ◌<◌, ◌≤◌, List, [], ◌∷◌, ◌++◌, length, take, drop, refl, sym, ◌∙◌, ap, arith, length-append, append_assoc}
use Rattle.std.proofs.lemmas.Bool.{cases_lt, lt-ltb, le-ltb}
use Rattle.std.proofs.lemmas.List.{take-append-drop, take-append-le, drop-append-le, length-take-le, take-take}
use Rattle.std.proofs.lemmas.List.Concat.{flat_map-append}
use Rattle.tm_records.specs.declared.record.Record.{Record}
use Rattle.tm_records.specs.Records.{Records}
use Rattle.tm_table.specs.Text.{record_text, table_text}
use Rattle.tm_runs.specs.declared.holder.Holder.{Holder}
use Rattle.tm_runs.specs.Marks.{below, rest, part, one, place, text_between, start, IsNoLater}

pub below_lt : (k : ℕ) (e : ℕ × Record) (es : Records) → e.0 < k → below k (e ∷ es) ≡ e ∷ below k es
below_lt k e es lt = ap (λ b. if b then e ∷ below k es else []) (lt-ltb e.0 k lt)

pub below_le : (k : ℕ) (e : ℕ × Record) (es : Records) → k ≤ e.0 → below k (e ∷ es) ≡ []
below_le k e es le = ap (λ b. if b then e ∷ below k es else []) (le-ltb e.0 k le)

pub rest_lt : (k : ℕ) (e : ℕ × Record) (es : Records) → e.0 < k → rest k (e ∷ es) ≡ rest k es
rest_lt k e es lt = ap (λ b. if b then rest k es else e ∷ es) (lt-ltb e.0 k lt)

pub rest_le : (k : ℕ) (e : ℕ × Record) (es : Records) → k ≤ e.0 → rest k (e ∷ es) ≡ e ∷ es
rest_le k e es le = ap (λ b. if b then rest k es else e ∷ es) (le-ltb e.0 k le)

pub below_rest : (k : ℕ) (es : Records) → below k es ++ rest k es ≡ es
below_rest k [] = refl
below_rest k (e ∷ es) = ⊎_elim
    (λ (lt : e.0 < k). ap (λ t. t ++ rest k (e ∷ es)) (below_lt k e es lt) ∙ ap (λ t. (e ∷ below k es) ++ t) (rest_lt k e es lt) ∙ ap (λ (t : Records). e ∷ t) (below_rest k es))
    (λ (le : k ≤ e.0). ap (λ t. t ++ rest k (e ∷ es)) (below_le k e es le) ∙ rest_le k e es le)
    (cases_lt e.0 k)

pub rest_twice : (a b : ℕ) (es : Records) → a ≤ b → rest b (rest a es) ≡ rest b es
rest_twice a b [] le = refl
rest_twice a b (e ∷ es) le = ⊎_elim
    (λ (lt : e.0 < a). ap (rest b) (rest_lt a e es lt) ∙ rest_twice a b es le ∙ sym (rest_lt b e es (omega arith)))
    (λ (ge : a ≤ e.0). ap (rest b) (rest_le a e es ge))
    (cases_lt e.0 a)

pub below_twice : (a b : ℕ) (es : Records) → a ≤ b → below a (below b es) ≡ below a es
below_twice a b [] le = refl
below_twice a b (e ∷ es) le = ⊎_elim
    (λ (lt : e.0 < a). ap (below a) (below_lt b e es (omega arith)) ∙ below_lt a e (below b es) lt ∙ ap (λ (t : Records). e ∷ t) (below_twice a b es le) ∙ sym (below_lt a e es lt))
    (λ (ge : a ≤ e.0). ⊎_elim
    (λ (lt : e.0 < b). ap (below a) (below_lt b e es lt) ∙ below_le a e (below b es) ge ∙ sym (below_le a e es ge))
    (λ (ge2 : b ≤ e.0). ap (below a) (below_le b e es ge2) ∙ sym (below_le a e es ge))
    (cases_lt e.0 b))
    (cases_lt e.0 a)

swap : (b c : ℕ) (es : Records) → b ≤ c → rest b (below c es) ≡ below c (rest b es)
swap b c [] le = refl
swap b c (e ∷ es) le = ⊎_elim
    (λ (lt : e.0 < b). ap (rest b) (below_lt c e es (omega arith)) ∙ rest_lt b e (below c es) lt ∙ swap b c es le ∙ sym (ap (below c) (rest_lt b e es lt)))
    (λ (ge : b ≤ e.0). ⊎_elim
    (λ (lt : e.0 < c). ap (rest b) (below_lt c e es lt) ∙ rest_le b e (below c es) ge ∙ sym (ap (below c) (rest_le b e es ge) ∙ below_lt c e es lt))
    (λ (ge2 : c ≤ e.0). ap (rest b) (below_le c e es ge2) ∙ sym (ap (below c) (rest_le b e es ge) ∙ below_le c e es ge2))
    (cases_lt e.0 c))
    (cases_lt e.0 b)

pub part_split : (a b c : ℕ) (es : Records) → a ≤ b → b ≤ c → part a c es ≡ part a b es ++ part b c es
part_split a b c es le le2 =
    sym (below_rest b (below c (rest a es))) ∙ ap (λ t. t ++ rest b (below c (rest a es))) (below_twice b c (rest a es) le2)
    ∙ ap (λ t. part a b es ++ t) (swap b c (rest a es) le2 ∙ ap (below c) (rest_twice a b es le))

pub below_split : (a b : ℕ) (es : Records) → a ≤ b → below b es ≡ below a es ++ part a b es
below_split a b es le = sym (below_rest a (below b es)) ∙ ap (λ t. t ++ rest a (below b es)) (below_twice a b es le) ∙ ap (λ t. below a es ++ t) (swap a b es le)

pub part_none : (a b : ℕ) (es : Records) → b ≤ a → part a b es ≡ []
part_none a b [] le = refl
part_none a b (e ∷ es) le = ⊎_elim
    (λ (lt : e.0 < a). ap (below b) (rest_lt a e es lt) ∙ part_none a b es le)
    (λ (ge : a ≤ e.0). ap (below b) (rest_le a e es ge) ∙ below_le b e es (omega arith))
    (cases_lt e.0 a)

pub rest_zero : (es : Records) → rest 0 es ≡ es
rest_zero [] = refl
rest_zero (e ∷ es) = rest_le 0 e es (omega arith)

pub below_zero : (es : Records) → below 0 es ≡ []
below_zero [] = refl
below_zero (e ∷ es) = below_le 0 e es (omega arith)

pub table-append : (a b : Records) → table_text (a ++ b) ≡ table_text a ++ table_text b
unfolding table_text
table-append a b = flat_map-append record_text a b

pub table-none : table_text [] ≡ []
unfolding table_text
table-none = refl

pub take_more : (a b : List ℕ) (n : ℕ) → take (length a + n) (a ++ b) ≡ a ++ take n b
take_more [] b n = ap (λ k. take k b) (omega arith)
take_more (x ∷ a) b n =
    let e : length (x ∷ a) + n ≡ suc (length a + n) = omega arith in
    ap (λ k. take k (x ∷ (a ++ b))) e ∙ ap (λ t. x ∷ t) (take_more a b n)

-- the record at its key has all bytes that stand before a place
abbrev pub IsIn : Records → Holder → Type 0
IsIn es m = m.skip ≤ length (table_text (one m.key es))

module _ (es : Records) (m n : Holder) (order : IsNoLater m n) (m_in : IsIn es m) (n_in : IsIn es n) where
  abbrev there : List ℕ
  there = table_text (one n.key es)

  -- all from the first record on to before the second place are enough
  enough : m.skip ≤ length (table_text (part m.key n.key es)) + n.skip
  enough = ⊎_elim
      (λ (lt : m.key < n.key).
      let long = ap length (ap table_text (part_split m.key (m.key + 1) n.key es (omega arith) (omega arith)) ∙ table-append (one m.key es) (part (m.key + 1) n.key es)) in
      omega (arith, m_in, long, length-append (table_text (one m.key es)) (table_text (part (m.key + 1) n.key es))))
      (λ h. omega (arith, h.1))
      order

  module _ (p : Holder) (order2 : IsNoLater n p) where
    abbrev later : List ℕ
    later = table_text (part n.key p.key es) ++ take p.skip (table_text (one p.key es))

    same_front : take n.skip there ≡ take n.skip later
    same_front = ⊎_elim
        (λ (lt : n.key < p.key).
        let more : List ℕ = table_text (part (n.key + 1) p.key es) in
        let end : List ℕ = take p.skip (table_text (one p.key es)) in
        let is : table_text (part n.key p.key es) ≡ there ++ more = ap table_text (part_split n.key (n.key + 1) p.key es (omega arith) (omega arith)) ∙ table-append (one n.key es) (part (n.key + 1) p.key es) in
        sym (ap (λ t. take n.skip (t ++ end)) is ∙ ap (take n.skip) (append_assoc there more end) ∙ take-append-le n.skip there (more ++ end) n_in))
        (λ h.
        let none : table_text (part n.key p.key es) ≡ [] = ap table_text (part_none n.key p.key es (omega (arith, h.0))) ∙ table-none in
        sym (ap (λ t. take n.skip (t ++ take p.skip (table_text (one p.key es)))) none ∙ take-take n.skip p.skip (table_text (one p.key es)) h.1 ∙ ap (λ k. take n.skip (table_text (one k es))) (sym h.0)))
        order2

    up : (m.key ≤ n.key) × (n.key ≤ p.key)
    up = (⊎_elim (λ (lt : m.key < n.key). omega arith) (λ h. omega (arith, h.0)) order, ⊎_elim (λ (lt : n.key < p.key). omega arith) (λ h. omega (arith, h.0)) order2)

    -- the text between two places, in two
    pub between_split : text_between es m p ≡ text_between es m n ++ text_between es n p
    between_split =
        let x : List ℕ = table_text (part m.key n.key es) in
        let end : List ℕ = take p.skip (table_text (one p.key es)) in
        let is : table_text (part m.key p.key es) ≡ x ++ table_text (part n.key p.key es) = ap table_text (part_split m.key n.key p.key es up.0 up.1) ∙ table-append (part m.key n.key es) (part n.key p.key es) in
        let fits : m.skip ≤ length (x ++ take n.skip there) = omega (arith, enough, length-append x (take n.skip there), length-take-le n.skip there n_in) in
        ap (λ t. drop m.skip (t ++ end)) is ∙ ap (drop m.skip) (append_assoc x (table_text (part n.key p.key es)) end)
        ∙ ap (λ t. drop m.skip (x ++ t)) (sym (take-append-drop n.skip later) ∙ ap (λ t. t ++ drop n.skip later) (sym same_front))
        ∙ ap (drop m.skip) (sym (append_assoc x (take n.skip there) (drop n.skip later)))
        ∙ drop-append-le m.skip (x ++ take n.skip there) (drop n.skip later) fits

-- the text before a place
pub between_start : (es : Records) (n : Holder) → IsIn es n → text_between es start n ≡ take (place es n) (table_text es)
between_start es n n_in =
    let a : List ℕ = table_text (below n.key es) in
    let r : List ℕ = table_text (one n.key es) in
    let q : List ℕ = table_text (rest (n.key + 1) (rest n.key es)) in
    let here : table_text (part 0 n.key es) ≡ a = ap (λ t. table_text (below n.key t)) (rest_zero es) in
    let whole : table_text es ≡ a ++ (r ++ q) = ap table_text (sym (below_rest n.key es)) ∙ table-append (below n.key es) (rest n.key es)
    ∙ ap (λ t. a ++ t) (ap table_text (sym (below_rest (n.key + 1) (rest n.key es))) ∙ table-append (one n.key es) (rest (n.key + 1) (rest n.key es))) in
    ap (λ t. t ++ take n.skip r) here ∙ sym (ap (take (place es n)) whole ∙ take_more a (r ++ q) n.skip ∙ ap (λ t. a ++ t) (take-append-le n.skip r q n_in))

-- a place that stands before another in the text isn't behind it
pub places_order : (es : Records) (m n : Holder) → IsIn es n → place es m < place es n → (m.key < n.key) ⊎ ((m.key ≡ n.key) × (m.skip < n.skip))
places_order es m n n_in lt = ⊎_elim
    (λ (less : m.key < n.key). inl less)
    (λ (ge : n.key ≤ m.key). ⊎_elim
    (λ (more : n.key < m.key).
    let low = ap length (ap table_text (below_split n.key m.key es (omega arith)) ∙ table-append (below n.key es) (part n.key m.key es)) in
    let mid = ap length (ap table_text (part_split n.key (n.key + 1) m.key es (omega arith) (omega arith)) ∙ table-append (one n.key es) (part (n.key + 1) m.key es)) in
    absurd (omega (arith, lt, n_in, low, mid, length-append (table_text (below n.key es)) (table_text (part n.key m.key es)), length-append (table_text (one n.key es)) (table_text (part (n.key + 1) m.key es)))))
    (λ (le : m.key ≤ n.key).
    let same : m.key ≡ n.key = omega arith in
    inr (same, omega (arith, lt, ap (λ k. length (table_text (below k es))) same)))
    (cases_lt n.key m.key))
    (cases_lt m.key n.key)

-- no place is behind the end
place_le : (es : Records) (m : Holder) → IsIn es m → place es m ≤ length (table_text es)
place_le es m m_in =
    let a : List ℕ = table_text (below m.key es) in
    let r : List ℕ = table_text (one m.key es) in
    let q : List ℕ = table_text (rest (m.key + 1) (rest m.key es)) in
    let whole : table_text es ≡ a ++ (r ++ q) = ap table_text (sym (below_rest m.key es)) ∙ table-append (below m.key es) (rest m.key es)
    ∙ ap (λ t. a ++ t) (ap table_text (sym (below_rest (m.key + 1) (rest m.key es))) ∙ table-append (one m.key es) (rest (m.key + 1) (rest m.key es))) in
    omega (arith, ap length whole, length-append a (r ++ q), length-append r q, m_in)

start_long : (es : Records) (m : Holder) → IsIn es m → length (text_between es start m) ≡ place es m
start_long es m m_in = ap length (between_start es m m_in) ∙ length-take-le (place es m) (table_text es) (place_le es m m_in)

start_first : (m : Holder) → IsNoLater start m
start_first m = ⊎_elim (λ (lt : 0 < m.key). inl lt) (λ (le : m.key ≤ 0). inr (omega arith, omega arith)) (cases_lt 0 m.key)

pub between_long : (es : Records) (m n : Holder) → IsNoLater m n → IsIn es m → IsIn es n → length (text_between es m n) + place es m ≡ place es n
between_long es m n order m_in n_in =
    omega (arith, start_long es m m_in, start_long es n n_in, ap length (between_split es start m (start_first m) (omega arith) m_in n order), length-append (text_between es start m) (text_between es m n))
