-- Critical boards line by line: what a line lacks is one place, so the lines' boards together are the Rust's, which of a sound position are
-- the written ones.
use mathlib.Core.Path.{◌≡◌, refl, sym, ap, ap₂, ◌∙◌, subst}
use mathlib.Core.Bool.{Bool, true, false, not, cond, ◌||◌, ◌&&◌, and-true, and-false}
use mathlib.Core.Logic.{inl, inr}
use Prim.Native.Nat.{ℕ, ◌+◌, ◌<◌}
use native.Mathlib.Omega.{arith}
use lib.Bits.{bit_and, bit_or, and_le_l}
use lib.Count.{ones, count_trailing_zeros}
use lib.Dec.{T, eqb, ltb, eqb→eq, ltb→lt}
use Rattle.std.specs.List.{list_any, fold}
use borrow.Author.Tests.{eqb-true, eq-eqb}
use Rattle.base.specs.Bits.{bit, digits}
use Rattle.base.specs.Lists.{any, all, In}
use Rattle.base.proofs.ListsAgree.{same_by}
use Rattle.base.proofs.Bool.{and→, →and, →or_l, →or_r, is}
use Rattle.base.proofs.BitsOperations.{bit-bit_and}
use Rattle.base.proofs.ListsEvery.{up_to, up_to_at, same_b, same_b_eq}
use Rattle.base.proofs.Lists.{any_some, some_any, all_each}
use Rattle.base.proofs.Bits.{digits_same, is_digits}
use Rattle.rules.specs.declared.Player.{Player}
use Rattle.rules.specs.Board.{nine, Line, lines, all_three}
use Rattle.rules.specs.Position.{Position, open_board, won_boards, free_cell, has}
use Rattle.rules.specs.Evaluation.{places_in}
use Rattle.rules.specs.Endgame.{critical}
use Rattle.rules.proofs.Board.{in_nine}
use Rattle.rules.proofs.Sound.{Fair}
use Rattle.rules.proofs.EndgameCritical.{on, sole_empty, rust_critical, rust_critical_board, critical_is_rusts}
use Rattle.lines.specs.Masks.{masks, mask_of, line_at}
use Rattle.lines.proofs.Masks.{mask_at}
use Rattle.endgame.specs.Parts.{lacks_one, critical_by}
use Rattle.endgame.proofs.PartsSets.{set_lt, set_bit, no_digits, joined_all}
use Rattle.endgame.proofs.PartsLacking.{lone_bit, line_lacks, mask_lacks, any_mask}

-- ---- the places of a line
on_test : Line → Bool
on_test l = up_to (λ b. same_b (bit (mask_of l) b) (on b l)) 9

on_line : (l : Line) (b : ℕ) → In l lines → b < 9 → bit (mask_of l) b ≡ on b l
unfolding on_test all bit
on_line l b i h = same_b_eq _ _ (up_to_at (λ b. same_b (bit (mask_of l) b) (on b l)) 9 (all_each on_test l lines tt i) b h)

mask_is : (i : ℕ) → i < 8 → mask_at i ≡ mask_of (line_at i)
mask_is i h = eqb→eq _ _ (up_to_at (λ i. eqb (mask_at i) (mask_of (line_at i))) 8 tt i h)

low_test : Line → Bool
low_test l = ltb l.i 9 && (ltb l.j 9 && ltb l.k 9)

-- a line with one empty place has it among the nine
lone_place : (empty : ℕ → Bool) (l : Line) → In l lines → T (eqb (places_in empty l) 1) → (c : ℕ) × (c < 9) × T (empty c) ×
    T (on c l)
unfolding low_test all places_in
lone_place empty l i t =
    let r = and→ (ltb l.i 9) _ (all_each low_test l lines tt i) in let s = and→ (ltb l.j 9) _ r.1 in
    elim (is (empty l.i)) [
      | inl u ↦ (l.i, ltb→lt _ 9 r.0, u, →or_l (eqb l.i l.i) _ (self l.i))
      | inr u ↦ elim (is (empty l.j)) [
        | inl v ↦ (l.j, ltb→lt _ 9 s.0, v, →or_r (eqb l.j l.i) _ (→or_l (eqb l.j l.j) _ (self l.j)))
        | inr v ↦ elim (is (empty l.k)) [
          | inl w ↦ (l.k, ltb→lt _ 9 s.1, w, →or_r (eqb l.k l.i) _ (→or_r (eqb l.k l.j) _ (self l.k)))
          | inr w ↦ absurd (none (empty l.i) (empty l.j) (empty l.k) u v w t)
        ]
      ]
    ]
  where
    self : (n : ℕ) → T (eqb n n)
    self n = rw (eq-eqb n n refl) tt

    none : (a b c : Bool) → T (not a) → T (not b) → T (not c) → T (eqb (cond a 1 0 + cond b 1 0 + cond c 1 0) 1) → ⊥
    none false false false u v w t = t
    none true b c u v w t = u
    none false true c u v w t = v
    none false false true u v w t = w

-- ---- some line of a board's cells lacks one exactly if the Rust finds a place
module _ (own empty : ℕ → Bool) where
  pub lacking_found : T (any (line_lacks own empty) lines) → T (any (λ c. empty c && rust_critical own empty c) nine)
  unfolding line_lacks rust_critical sole_empty
  lacking_found t =
      let r = any_some (line_lacks own empty) lines t in let l = r.0 in
      let s = and→ (all_three (λ i. own i || empty i) l) _ r.2 in
      let c = lone_place empty l r.1 s.1 in
      some_any (λ c. empty c && rust_critical own empty c) c.0 nine (in_nine c.0 c.1)
      (→and (empty c.0) _ c.2 (some_any (sole_empty own empty c.0) l lines r.1
      (→and (all_three (λ i. own i || empty i) l) _ s.0 (→and (eqb (places_in empty l) 1) _ s.1 c.3))))

  pub found_lacking : T (any (λ c. empty c && rust_critical own empty c) nine) → T (any (line_lacks own empty) lines)
  unfolding line_lacks rust_critical sole_empty
  found_lacking t =
      let r = any_some (λ c. empty c && rust_critical own empty c) nine t in
      let s = any_some (sole_empty own empty r.0) lines (and→ (empty r.0) _ r.2).1 in let l = s.0 in
      let u = and→ (all_three (λ i. own i || empty i) l) _ s.2 in
      some_any (line_lacks own empty) l lines s.1 (→and (all_three (λ i. own i || empty i) l) _ u.0
      (and→ (eqb (places_in empty l) 1) _ u.1).0)

-- ---- the lines' boards together
-- board b is the one that line l lacks, and some line of its cells lacks one
unfoldable pub line_critical : Position → Player → Line → ℕ → Bool
line_critical p w l b =
    (open_board p b && bit (mask_of l) b) &&
    (line_lacks (won_boards p w) (open_board p) l && any (line_lacks (has p w b) (free_cell p b)) lines)

module _ (p : Position) (f : Fair p) (w : Player) where
  pub by_lines : (b : ℕ) → b < 9 → any (λ l. line_critical p w l b) lines ≡ critical p w b
  unfolding line_critical line_lacks rust_critical_board rust_critical sole_empty
  by_lines b h =
      same_by (any (λ l. line_critical p w l b) lines) (critical p w b) (λ t. (critical_is_rusts p f w b h).0 (there t))
      (λ t. back ((critical_is_rusts p f w b h).1 t))
    where
      covered : Line → Bool
      covered l = all_three (λ i. won_boards p w i || open_board p i) l

      there : T (any (λ l. line_critical p w l b) lines) → T (rust_critical_board p w b)
      there t =
          let r = any_some (λ l. line_critical p w l b) lines t in let l = r.0 in
          let s = and→ (open_board p b && bit (mask_of l) b) _ r.2 in
          let o = and→ (open_board p b) _ s.0 in
          let u = and→ (covered l && eqb (places_in (open_board p) l) 1) _ s.1 in
          let v = and→ (covered l) _ u.0 in
          →and (open_board p b) _ o.0 (→and (rust_critical (won_boards p w) (open_board p) b) _
          (some_any (sole_empty (won_boards p w) (open_board p) b) l lines r.1
          (→and (covered l) _ v.0 (→and (eqb (places_in (open_board p) l) 1) _ v.1
          (subst (λ (x : Bool). T x) (on_line l b r.1 h) o.1))))
          (lacking_found (has p w b) (free_cell p b) u.1))

      back : T (rust_critical_board p w b) → T (any (λ l. line_critical p w l b) lines)
      back t =
          let o = and→ (open_board p b) _ t in
          let q = and→ (rust_critical (won_boards p w) (open_board p) b) _ o.1 in
          let r = any_some (sole_empty (won_boards p w) (open_board p) b) lines q.0 in let l = r.0 in
          let u = and→ (covered l) _ r.2 in let v = and→ (eqb (places_in (open_board p) l) 1) _ u.1 in
          some_any (λ l. line_critical p w l b) l lines r.1
          (→and (open_board p b && bit (mask_of l) b) _ (→and (open_board p b) _ o.0
          (subst (λ (x : Bool). T x) (sym (on_line l b r.1 h)) v.1))
          (→and (covered l && eqb (places_in (open_board p) l) 1) _ (→and (covered l) _ u.0 v.0)
          (found_lacking (has p w b) (free_cell p b) q.1)))

  by_masks : (b : ℕ) → list_any (λ m. critical_by p w m b) masks ≡ any (λ l. line_critical p w l b) lines
  unfolding critical_by line_critical
  by_masks b = any_mask (λ m. critical_by p w m b) (λ l. line_critical p w l b) (λ i h.
      ap₂ ◌&&◌ (ap (λ (m : ℕ). open_board p b && bit m b) (mask_is i h))
      (ap₂ ◌&&◌ (mask_lacks (won_boards p w) (open_board p) i h)
      (any_mask (lacks_one (digits (has p w b) 9) (digits (free_cell p b) 9)) (line_lacks (has p w b) (free_cell p b))
      (mask_lacks (has p w b) (free_cell p b)))))

  pub all_masks : fold (λ out m. bit_or out (digits (critical_by p w m) 9)) 0 masks ≡ digits (critical p w) 9
  all_masks =
      joined_all (critical_by p w) masks (λ _. false) 0 (no_digits (λ _. false) (λ _ _. refl))
      ∙ digits_same _ (critical p w) 9 (λ b h. by_masks b ∙ by_lines b h)

-- ---- the line of one mask
module _ (p : Position) (w : Player) (mask own opens : ℕ) (e : own ≡ digits (won_boards p w) 9)
    (d : opens ≡ digits (open_board p) 9) where
  abbrev lacked : ℕ
  lacked = bit_and opens mask

  abbrev found : ℕ → Bool
  found b = list_any (lacks_one (digits (has p w b) 9) (digits (free_cell p b) 9)) masks

  module _ (r : Bool) (a : lacks_one own opens mask ≡ r) where
    lacks : lacks_one (digits (won_boards p w) 9) (digits (open_board p) 9) mask ≡ r
    lacks = (λ i. lacks_one (sym e i) (sym d i) mask) ∙ a

    pub line_lacks_none : r ≡ false → 0 ≡ digits (critical_by p w mask) 9
    unfolding critical_by
    line_lacks_none f = no_digits (critical_by p w mask) (λ b _.
        ap (λ (x : Bool). (open_board p b && bit mask b) && (x && found b)) (lacks ∙ f) ∙ and-false (open_board p b && bit mask b))

    -- the line lacks one board: it is the lowest bit, and it counts if a line of its cells lacks one
    module _ (t : r ≡ true) where
      lacked_lt : lacked < 512
      lacked_lt = omega (arith, set_lt (open_board p) opens d, and_le_l opens mask)

      lacked_bit : (b : ℕ) → b < 9 → bit lacked b ≡ (open_board p b && bit mask b)
      lacked_bit b l = bit-bit_and opens mask b ∙ ap (λ (x : Bool). x && bit mask b) (set_bit (open_board p) opens d b l)

      one_lacked : T (eqb (ones lacked) 1)
      one_lacked = (and→ (eqb (bit_and (bit_or own opens) mask) mask) _ (rw (a ∙ t) tt)).1

      lacked_is : (b : ℕ) → b < 9 → (open_board p b && bit mask b) ≡ eqb b (count_trailing_zeros 32 lacked)
      lacked_is b l = sym (lacked_bit b l) ∙ lone_bit lacked b lacked_lt l one_lacked

      module _ (c : Bool) (g : c ≡ found (count_trailing_zeros 32 lacked)) where
        each : (b : ℕ) → b < 9 → critical_by p w mask b ≡ (eqb b (count_trailing_zeros 32 lacked) && c)
        unfolding critical_by
        each b l =
            ap₂ (λ (x y : Bool). x && (y && found b)) (lacked_is b l) (lacks ∙ t)
            ∙ go (eqb b (count_trailing_zeros 32 lacked)) refl
          where
            go : (x : Bool) → eqb b (count_trailing_zeros 32 lacked) ≡ x → (x && found b) ≡ (x && c)
            go true q = ap found (eqb-true b (count_trailing_zeros 32 lacked) q) ∙ sym g
            go false q = refl

        pub line_found : c ≡ true → lacked ≡ digits (critical_by p w mask) 9
        line_found u = is_digits (critical_by p w mask) 9 lacked lacked_lt (λ b l.
            lacked_bit b l ∙ lacked_is b l ∙ sym (and-true (eqb b (count_trailing_zeros 32 lacked)))
            ∙ ap (◌&&◌ (eqb b (count_trailing_zeros 32 lacked))) (sym u) ∙ sym (each b l))

        pub line_missed : c ≡ false → 0 ≡ digits (critical_by p w mask) 9
        line_missed u =
            no_digits (critical_by p w mask) (λ b l. each b l ∙ ap (◌&&◌ (eqb b (count_trailing_zeros 32 lacked))) u
            ∙ and-false (eqb b (count_trailing_zeros 32 lacked)))

pub ruleset lacked_boards = (line_lacks_none, line_found, line_missed)
