-- Sets of links, and how many links a set has.
--     Links         a set of links: a function that is true at the links of the set
--     In s l        l is in s
--     Outside s l   l is not in s
--     none          the set of no link
--     one l         the set of l alone
--     less s l      s without l
--     union s t     the links that are in s or in t
--     count s n     how many of the links 1 to n are in s
use Rattle.std.specs.Prelude.{◌≡◌, ℕ, zero, suc, ◌+◌, Bool, true, false, cond, not, ◌&&◌, ◌||◌, ◌==◌}

abbrev pub Links : Type 0
Links = ℕ → Bool

abbrev pub In : Links → ℕ → Type 0
In s l = s l ≡ true

abbrev pub Outside : Links → ℕ → Type 0
Outside s l = s l ≡ false

abbrev pub none : Links
none x = false

abbrev pub one : ℕ → Links
one l x = x == l

abbrev pub less : Links → ℕ → Links
less s l x = s x && not (x == l)

abbrev pub union : Links → Links → Links
union s t x = s x || t x

abbrev pub count : Links → ℕ → ℕ
count s zero = 0
count s (suc n) = cond (s (suc n)) (count s n + 1) (count s n)
