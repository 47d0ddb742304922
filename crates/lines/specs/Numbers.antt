-- The numbers of a line, behind its letter. Each follows one blank, is 0 to 65,535 and has no leading zero; there are at
-- most 257 of them.
--     advanced s b     what the byte b does where s stands in front of it: it breaks the rule, it goes on, or it ends a number
--     scanned s bs     the numbers that bs has where s stands in front of it, or nothing where bs breaks the rule
--     behind ns o      the numbers ns, and those of o behind them
--     numbers_in bs    the numbers of a line
use Rattle.std.specs.Prelude.{ℕ, ◌+◌, ◌-◌, ◌*◌, Bool, cond, ◌&&◌, List, [], ◌∷◌, ◌++◌, length, Some, None, Option, ◌==◌, nat_le}
use Rattle.lines.specs.declared.scan.Scan.{Scan}
use Rattle.lines.specs.declared.scan.Scan.TheVariants.{AfterBlank, Between, Inside}
use Rattle.lines.specs.declared.scan.Turn.{Turn}
use Rattle.lines.specs.declared.scan.Turn.TheVariants.{Breaks, Ends, GoesOn}

abbrev pub blank : ℕ
blank = 32

abbrev pub is_digit : ℕ → Bool
is_digit b = nat_le 48 b && nat_le b 57

abbrev pub advanced : Scan → ℕ → Turn
advanced Between b = cond (b == blank) (GoesOn AfterBlank) Breaks
advanced AfterBlank b = cond (b == 48) (Ends 0 Between) (cond (is_digit b) (GoesOn (Inside (b - 48))) Breaks)
advanced (Inside n) b =
    cond (is_digit b)
    (cond (nat_le (n * 10 + (b - 48)) 65535) (GoesOn (Inside (n * 10 + (b - 48)))) Breaks)
    (cond (b == blank) (Ends n AfterBlank) Breaks)

abbrev pub behind : List ℕ → Option (List ℕ) → Option (List ℕ)
behind ns None = None
behind ns (Some ms) = Some (ns ++ ms)

-- what a scan has where the text ends
abbrev pub at_end : Scan → Option (List ℕ)
at_end Between = Some []
at_end AfterBlank = None
at_end (Inside n) = Some (n ∷ [])

abbrev pub after_turn : Turn → (Scan → Option (List ℕ)) → Option (List ℕ)
after_turn Breaks more = None
after_turn (GoesOn s) more = more s
after_turn (Ends n s) more = behind (n ∷ []) (more s)

unfoldable pub scanned : List ℕ → Scan → Option (List ℕ)
scanned [] s = at_end s
scanned (b ∷ bs) s = after_turn (advanced s b) (scanned bs)

-- no more than the program takes
abbrev pub few : Option (List ℕ) → Option (List ℕ)
few None = None
few (Some ns) = cond (nat_le (length ns) 257) (Some ns) None

abbrev pub numbers_in : List ℕ → Option (List ℕ)
numbers_in bs = few (scanned bs Between)
