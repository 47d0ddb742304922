-- What stays when only the links of f and the pairs of g stay.
--     but_for_from                     a link other than l is kept where all but l are
--     live_in, open_in, on_in          what stays was there
--     live_stays, open_stays           a link that stays is in f, a pair that stays in g
--     live_from, open_from, on_from    what was there and is kept stays
--     remain_sound                     what remains of a sound instance is sound
--     back_cut                         a cut of what remains, with c, is a cut if it meets the pairs that went
--     onward_cut                       a set of links of f that meets the pairs of g by links of f is a cut of what remains
--     remain_roads                     no road is empty if each pair of g has a link of f
use Rattle.std.proofs.Common.{◌≡◌, ℕ, Bool, true, false, ◌&&◌, eqb, ◌≢◌, ⊎_elim}
use Rattle.std.proofs.lemmas.Bool.{and_from, and_parts, cases_Bool, ne_eqb, not_from_false, or_cases, or_right}
use Rattle.cuts.specs.After.{but_for, remain}
use Rattle.cuts.specs.Instances.{Instance, Live, Open, On, Sound, Met, Cut, NoEmptyRoad}
use Rattle.cuts.specs.Links.{Links, In, union}

pub but_for_from : (l x : ℕ) → x ≢ l → but_for l x ≡ true
but_for_from l x ne = not_from_false (eqb x l) (ne_eqb x l ne)

module _ (i : Instance) (f g : ℕ → Bool) where
  pub live_in : (x : ℕ) → Live (remain i f g) x → Live i x
  live_in x h = (and_parts (i.live x) (f x) h).0

  pub live_stays : (x : ℕ) → Live (remain i f g) x → f x ≡ true
  live_stays x h = (and_parts (i.live x) (f x) h).1

  pub live_from : (x : ℕ) → Live i x → f x ≡ true → Live (remain i f g) x
  live_from x = and_from (i.live x) (f x)

  pub open_in : (p : ℕ) → Open (remain i f g) p → Open i p
  open_in p h = (and_parts (i.opened p) (g p) h).0

  pub open_stays : (p : ℕ) → Open (remain i f g) p → g p ≡ true
  open_stays p h = (and_parts (i.opened p) (g p) h).1

  pub open_from : (p : ℕ) → Open i p → g p ≡ true → Open (remain i f g) p
  open_from p = and_from (i.opened p) (g p)

  pub on_in : (x p : ℕ) → On (remain i f g) x p → On i x p
  on_in x p h = (and_parts (i.on x p) (f x && g p) h).0

  pub on_from : (x p : ℕ) → On i x p → f x ≡ true → g p ≡ true → On (remain i f g) x p
  on_from x p h a b = and_from (i.on x p) (f x && g p) h (and_from (f x) (g p) a b)

  pub remain_sound : Sound i → Sound (remain i f g)
  remain_sound ok = record {
    from_one = λ l h. ok.from_one l (live_in l h);
    to_highest = λ l h. ok.to_highest l (live_in l h);
    numbered = λ p h. ok.numbered p (open_in p h);
    on_live = λ l p h.
        let stays = and_parts (f l) (g p) (and_parts (i.on l p) (f l && g p) h).1 in
        live_from l (ok.on_live l p (on_in l p h)) stays.0;
    on_open = λ l p h.
        let stays = and_parts (f l) (g p) (and_parts (i.on l p) (f l && g p) h).1 in
        open_from p (ok.on_open l p (on_in l p h)) stays.1;
  }

  pub back_cut :
      (c s : Links) → ((l : ℕ) → In c l → Live i l) → Cut (remain i f g) s →
      ((p : ℕ) → Open i p → g p ≡ false → Met i (union c s) p) → Cut i (union c s)
  back_cut c s chosen cut went = record {
    inside = λ l h. ⊎_elim (λ a. chosen l a) (λ a. live_in l (cut.inside l a)) (or_cases (c l) (s l) h);
    meets = λ p h.
        ⊎_elim
        (λ a.
        let (x, x-in, x-on) = cut.meets p (open_from p h a) in
        (x, or_right (c x) (s x) x-in, on_in x p x-on))
        (λ a. went p h a)
        (cases_Bool (g p));
  }

  pub onward_cut :
      (t : Links) → ((l : ℕ) → In t l → Live i l) → ((l : ℕ) → In t l → f l ≡ true) →
      ((p : ℕ) → Open i p → g p ≡ true → Met i t p) → Cut (remain i f g) t
  onward_cut t lives kept met = record {
    inside = λ l h. live_from l (lives l h) (kept l h);
    meets = λ p h.
        let stays = open_stays p h in
        let (x, x-in, x-on) = met p (open_in p h) stays in
        (x, x-in, on_from x p x-on (kept x x-in) stays);
  }

  pub remain_roads :
      ((p : ℕ) → Open i p → g p ≡ true → (x : ℕ) × On i x p × (f x ≡ true)) → NoEmptyRoad (remain i f g)
  remain_roads road p h =
      let stays = open_stays p h in
      let (x, x-on, x-kept) = road p (open_in p h) stays in
      (x, on_from x p x-on x-kept stays)
