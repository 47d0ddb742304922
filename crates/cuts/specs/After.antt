-- What remains of an instance after a step.
--     remain i f g     only the links of f and the pairs of g stay; the roads lose what does not stay
--     weld_link i l    l is no longer live, and off every road: the two terms that it joins become one
--     drop_pair i r    r is no longer open
--     cut_link i l     l is no longer live, and no pair with l on its road is open any more
use Rattle.std.specs.Prelude.{ℕ, Bool, true, not, ◌&&◌, ◌==◌}
use Rattle.cuts.specs.Instances.{Instance}

abbrev pub remain : Instance → (ℕ → Bool) → (ℕ → Bool) → Instance
remain i f g = record {
  highest = i.highest;
  pairs = i.pairs;
  live = λ x. i.live x && f x;
  opened = λ p. i.opened p && g p;
  on = λ x p. i.on x p && (f x && g p);
}

abbrev pub every : ℕ → Bool
every x = true

abbrev pub but_for : ℕ → ℕ → Bool
but_for l x = not (x == l)

abbrev pub off_road : Instance → ℕ → ℕ → Bool
off_road i l p = not (i.on l p)

abbrev pub weld_link : Instance → ℕ → Instance
weld_link i l = remain i (but_for l) every

abbrev pub drop_pair : Instance → ℕ → Instance
drop_pair i r = remain i every (but_for r)

abbrev pub cut_link : Instance → ℕ → Instance
cut_link i l = remain i (but_for l) (off_road i l)
