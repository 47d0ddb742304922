-- How many links a set has.
--     count_le       a part of a set has no more links than the set
--     count_bounded  a set has at most n of the links 1 to n
--     count_empty    a set of no link has none
--     count_one      a set of one link has one
--     count_less     a set without one of its links has one fewer
--     count_union    two sets together have at most as many links as the one and the other
--     count_apart    and just as many if no link is in both
--     less_from      a link of s other than l is in s without l
--     less_in        a link of s without l is in s
--     less_other     and is not l
use Rattle.std.proofs.Common.{◌≡◌, ℕ, zero, suc, ◌+◌, ◌<◌, ◌≤◌, Bool, true, false, cond, not, ◌||◌, eqb, ◌≢◌, refl, ap, ◌∙◌, ⊎_elim, zero-le, arith}
use mathlib.Core.Bool.{and-not_self}
use Rattle.std.proofs.lemmas.Bool.{and_from, and_parts, and_right, both_ways, cases_eq, cond-false, cond-true, eq-eqb, ne_eqb, not_from_false, not_from_true, not-true}
use Rattle.cuts.specs.Links.{Links, In, Outside, count, less, one, union}

pub less_from : (s : Links) (l x : ℕ) → In s x → x ≢ l → In (less s l) x
less_from s l x h ne = and_from (s x) (not (eqb x l)) h (not_from_false (eqb x l) (ne_eqb x l ne))

pub less_in : (s : Links) (l x : ℕ) → In (less s l) x → In s x
less_in s l x h = (and_parts (s x) (not (eqb x l)) h).0

pub less_other : (s : Links) (l x : ℕ) → In (less s l) x → x ≢ l
less_other s l x h e = both_ways (eqb x l) (not-true (eqb x l) (and_parts (s x) (not (eqb x l)) h).1) (eq-eqb x l e)

-- one more number, which is in the set or not
more_le : (a b : Bool) (m n : ℕ) → (a ≡ true → b ≡ true) → m ≤ n → cond a (m + 1) m ≤ cond b (n + 1) n
more_le a b m n h le = grind arith

more_bounded : (a : Bool) (m n : ℕ) → m ≤ n → cond a (m + 1) m ≤ suc n
more_bounded a m n le = grind arith

more_or : (a b : Bool) (k m n : ℕ) → k ≤ m + n → cond (a || b) (k + 1) k ≤ cond a (m + 1) m + cond b (n + 1) n
more_or a b k m n le = grind arith

more_apart : (a b : Bool) (k m n : ℕ) → (a ≡ true → b ≡ false) → k ≡ m + n → cond (a || b) (k + 1) k ≡ cond a (m + 1) m + cond b (n + 1) n
more_apart a b k m n h e = grind arith

more_one : (a : Bool) (m n : ℕ) → m ≡ 1 + n → cond a (m + 1) m ≡ 1 + cond a (n + 1) n
more_one a m n e = grind arith

pub count_le : (s t : Links) → ((x : ℕ) → In s x → In t x) → (n : ℕ) → count s n ≤ count t n
count_le s t h zero = zero-le
count_le s t h (suc n) = more_le (s (suc n)) (t (suc n)) (count s n) (count t n) (h (suc n)) (count_le s t h n)

pub count_bounded : (s : Links) (n : ℕ) → count s n ≤ n
count_bounded s zero = zero-le
count_bounded s (suc n) = more_bounded (s (suc n)) (count s n) n (count_bounded s n)

pub count_empty : (s : Links) → ((x : ℕ) → Outside s x) → (n : ℕ) → count s n ≡ 0
count_empty s h zero = refl
count_empty s h (suc n) = cond-false (s (suc n)) (count s n + 1) (count s n) (h (suc n)) ∙ count_empty s h n

pub count_union : (s t : Links) (n : ℕ) → count (union s t) n ≤ count s n + count t n
count_union s t zero = zero-le
count_union s t (suc n) = more_or (s (suc n)) (t (suc n)) (count (union s t) n) (count s n) (count t n) (count_union s t n)

pub count_apart : (s t : Links) → ((x : ℕ) → In s x → Outside t x) → (n : ℕ) → count (union s t) n ≡ count s n + count t n
count_apart s t h zero = refl
count_apart s t h (suc n) =
    more_apart (s (suc n)) (t (suc n)) (count (union s t) n) (count s n) (count t n) (h (suc n)) (count_apart s t h n)

-- below l nothing is taken out; at l the link is; above l all is as before
less_same : (s : Links) (l x : ℕ) → x ≢ l → less s l x ≡ s x
less_same s l x ne = grind arith

less_out : (s : Links) (l x : ℕ) → x ≡ l → less s l x ≡ false
less_out s l x e = and_right (s x) (not (eqb x l)) (not_from_true (eqb x l) (eq-eqb x l e))

less_past : (s : Links) (l n : ℕ) → n < l → count (less s l) n ≡ count s n
less_past s l zero h = refl
less_past s l (suc n) h =
    let same : less s l (suc n) ≡ s (suc n) = less_same s l (suc n) (λ e. omega arith) in
    let below : count (less s l) n ≡ count s n = less_past s l n (omega arith) in
    cc

pub count_less : (s : Links) (l n : ℕ) → 1 ≤ l → l ≤ n → In s l → count s n ≡ 1 + count (less s l) n
count_less s l zero low high h = absurd (omega arith)
count_less s l (suc n) low high h =
    let m = count (less s l) n in
    ⊎_elim
    (λ e.
    let there : count s (suc n) ≡ count s n + 1 = cond-true (s (suc n)) (count s n + 1) (count s n) (ap s e ∙ h) in
    let gone : count (less s l) (suc n) ≡ m = cond-false (less s l (suc n)) (m + 1) m (less_out s l (suc n) e) in
    omega (arith, less_past s l n (omega arith)))
    (λ ne.
    let same : count (less s l) (suc n) ≡ cond (s (suc n)) (m + 1) m = ap (λ b. cond b (m + 1) m) (less_same s l (suc n) ne) in
    omega (arith, more_one (s (suc n)) (count s n) m (count_less s l n low (omega arith) h)))
    (cases_eq (suc n) l)

pub count_one : (l n : ℕ) → 1 ≤ l → l ≤ n → count (one l) n ≡ 1
count_one l n low high =
    let rest : (x : ℕ) → Outside (less (one l) l) x = λ x. and-not_self (eqb x l) in
    omega (arith, count_less (one l) l n low high (eq-eqb l l refl), count_empty (less (one l) l) rest n)
