-- Steps over registers that follow one another.
use Rattle.std.proofs.Common.{◌≡◌, ℕ, zero, suc, ◌+◌, ◌-◌, ◌*◌, ◌/◌, ◌<◌, ◌≤◌, Bool, true, false, cond, ◌&&◌, List, [], ◌∷◌, ◌++◌, length, get_or, take, set, Some, Option, sym, refl, ap, ◌∙◌, arith}
use Rattle.std.proofs.lemmas.List.{set_past, length-set}
use Rattle.std.proofs.lemmas.Bool.{ne_eqb}
use Rattle.std.specs.List.{flat_map, find, list_all, range_with_len}
use Rattle.std.proofs.lemmas.Iterator.{YieldsList}
use Rattle.std.proofs.iter.Yields.{listed}
use Rattle.std.specs.Option.{option_map}
use Rattle.std.specs.Range.{range_inclusive_len, range_inclusive_steps}
use Rattle.std.specs.declared.ops.RangeInclusive.{RangeInclusive}
use Rattle.std.specs.Simd.{first_chunks}
use Rattle.telegram.specs.Layout.{word}
use Rattle.stations.specs.declared.rights.Level.{Level}
use Rattle.stations.specs.declared.rights.Right.{Right}
use Rattle.stations.specs.Spans.{among}
use Rattle.stations.specs.Rights.{level_in_table}
use Rattle.stations.specs.Device.{State, read_out, allowed, all_allowed, written, all_written}

-- the level of the first right that there is for a register

level_if : (b : Bool) (p : Right) (o : Option Right) (l : Option Level) → l ≡ option_map (λ (p : Right). p.level) o → cond b (Some p.level) l ≡ option_map (λ (p : Right). p.level) (cond b (Some p) o)
level_if true p o l h = refl
level_if false p o l h = h

pub level-found : (ps : List Right) (r : ℕ) → level_in_table ps r ≡ option_map (λ (p : Right). p.level) (find (λ (p : Right). among p.registers r) ps)
level-found [] r = refl
level-found (p ∷ ps) r = level_if (among p.registers r) p (find (λ (p : Right). among p.registers r) ps) (level_in_table ps r) (level-found ps r)

-- the registers that a range from the first to the last has left

abbrev pub left_of : RangeInclusive ℕ → List ℕ
left_of s = range_with_len s.start (range_inclusive_len (λ a b. b - a) s.start s.end s.exhausted)

next_left : (a n b m x : ℕ) (spent : Bool) → (spent ≡ true → m ≡ 0) → (spent ≡ false → b ≡ a + 1) → m + 1 ≡ n → x ≡ a → range_with_len a n ≡ x ∷ range_with_len b m
next_left a n b m x true none next e f =
    let z = none refl in
    ap (range_with_len a) (sym e ∙ ap (λ (k : ℕ). k + 1) z) ∙ ap {B = List ℕ} (λ w. w ∷ []) (sym f) ∙ ap (λ (k : ℕ). x ∷ range_with_len b k) (sym z)
next_left a n b m x false none next e f =
    let more : n ≡ suc m = omega arith in
    ap (range_with_len a) more ∙ ap {B = List ℕ} (λ w. w ∷ range_with_len (a + 1) m) (sym f) ∙ ap {B = List ℕ} (λ w. x ∷ range_with_len w m) (sym (next refl))

pub inclusive-yields : (s : RangeInclusive ℕ) → YieldsList (range_inclusive_steps (λ a b. b - a) (λ a b. b ≡ a + 1)) (λ x. x) s (left_of s)
inclusive-yields s = record {
  runs = listed (range_inclusive_steps (λ a b. b - a) (λ a b. b ≡ a + 1)) (λ x. x) left_of
      (λ s t p. ap (λ (n : ℕ). length (range_with_len s.start n)) p.1.0)
      (λ s x t p. next_left s.start _ t.start _ x t.exhausted (λ e. ap (range_inclusive_len (λ a b. b - a) t.start t.end) e) p.1.2 p.1.1 p.1.0)
      s;
}

all_of : (a b first last : ℕ) (spent : Bool) → a ≡ first → b ≡ last → false ≡ spent → range_with_len a (range_inclusive_len (λ a b. b - a) a b spent) ≡ range_with_len first (last + 1 - first)
all_of a b first last spent h e whole =
    let n : range_inclusive_len (λ a b. b - a) a b false ≡ last + 1 - first = omega arith in
    (λ i. range_with_len (h i) (range_inclusive_len (λ a b. b - a) a b (sym whole i))) ∙ ap (range_with_len first) n

pub left_of-new : (s : RangeInclusive ℕ) (first last : ℕ) → s.start ≡ first → s.end ≡ last → s.exhausted ≡ false → left_of s ≡ range_with_len first (last + 1 - first)
left_of-new s first last h e whole = all_of s.start s.end first last s.exhausted h e (sym whole)

pub all_allowed-are : (x : State) (r n : ℕ) → list_all (allowed x) (range_with_len r n) ≡ all_allowed x r n
all_allowed-are x r zero = refl
all_allowed-are x r (suc n) =
    let k : r + 1 ≡ suc r = omega arith in
    ap (λ (b : Bool). allowed x r && b) (all_allowed-are x (r + 1) n ∙ ap (λ (j : ℕ). all_allowed x j n) k)

-- the register that is next in a range to the last that there can be
abbrev pub place : RangeInclusive ℕ → ℕ
place s = 65536 - range_inclusive_len (λ a b. b - a) s.start s.end s.exhausted

pub next_place : (a b : ℕ) (spent : Bool) (more : ℕ) → b ≡ 65535 → more + 1 ≡ range_inclusive_len (λ a b. b - a) a b spent → (a ≡ 65536 - range_inclusive_len (λ a b. b - a) a b spent) × (65536 - more ≡ suc a)
next_place a b true more h e = absurd (omega arith)
next_place a b false more h e = (omega arith, omega arith)

pub all_places : (a b : ℕ) (spent : Bool) (first : ℕ) → a ≡ first → b ≡ 65535 → spent ≡ false → first < 65536 → 65536 - range_inclusive_len (λ a b. b - a) a b spent ≡ first
all_places a b true first h e left small = cc
all_places a b false first h e left small = omega arith

pub none_left : (ws : List (List ℕ)) → length ws ≡ 0 → ws ≡ []
none_left [] h = refl
none_left (w ∷ ws) h = absurd (omega arith)

pub no_place : (a b : ℕ) (spent : Bool) → range_inclusive_len (λ a b. b - a) a b spent ≡ 0 → 65536 ≤ 65536 - range_inclusive_len (λ a b. b - a) a b spent
no_place a b spent h = omega arith

-- values of two bytes each, written into the registers from one on

pub words_written : State → ℕ → List (List ℕ) → State
words_written x r [] = x
words_written x r (w ∷ ws) = words_written (written x r (get_or w 0 0 * 256 + get_or w 1 0)) (suc r) ws

pub words-are : (x : State) (r : ℕ) (bytes : List ℕ) (n : ℕ) → n ≡ length bytes / 2 → all_written x r bytes ≡ words_written x r (first_chunks 2 n bytes)
unfolding words_written
words-are x r [] zero h = refl
words-are x r [] (suc n) h = absurd (omega arith)
words-are x r (a ∷ []) zero h = refl
words-are x r (a ∷ []) (suc n) h = absurd (omega arith)
words-are x r (a ∷ b ∷ bytes) zero h = absurd (omega arith)
words-are x r (a ∷ b ∷ bytes) (suc n) h = words-are (written x r (a * 256 + b)) (suc r) bytes n (omega arith)

set_if : (b : Bool) (xs : List ℕ) (i v : ℕ) → length (cond b xs (set xs i v)) ≡ length xs
set_if true xs i v = refl
set_if false xs i v = length-set xs i v

pub length-written : (x : State) (r v : ℕ) → length (written x r v).page ≡ length x.page
length-written x r v = set_if _ x.page _ v

-- past the last register that there can be nothing is kept
past-written : (x : State) (r v : ℕ) → length x.page ≤ 331 → 65536 ≤ r → written x r v ≡ x
past-written x r v long h =
    let act = ne_eqb r 0xD000 (λ e. omega arith) in
    let level = ne_eqb r 0xD002 (λ e. omega arith) in
    let stored = ne_eqb r 0xD100 (λ e. omega arith) in
    let page : set x.page (r - 0xD000) v ≡ x.page = set_past x.page _ v (omega arith) in
    simp (act, level, stored, page)

pub past-words : (x : State) (r : ℕ) (ws : List (List ℕ)) → length x.page ≤ 331 → 65536 ≤ r → words_written x r ws ≡ x
unfolding words_written
past-words x r [] long h = refl
past-words x r (w ∷ ws) long h =
    ap (λ (y : State). words_written y (suc r) ws) (past-written x r (get_or w 0 0 * 256 + get_or w 1 0) long h) ∙ past-words x (suc r) ws long (omega arith)

pub words-none : (x : State) (r : ℕ) (ws : List (List ℕ)) → ws ≡ [] → words_written x r ws ≡ x
unfolding words_written
words-none x r ws h = ap (words_written x r) h

pub words-more : (x : State) (r : ℕ) (ws vs : List (List ℕ)) (w : List ℕ) → ws ≡ w ∷ vs → words_written x r ws ≡ words_written (written x r (get_or w 0 0 * 256 + get_or w 1 0)) (suc r) vs
unfolding words_written
words-more x r ws vs w h = ap (words_written x r) h

-- registers that were read, two bytes each

read_out-more : (at : ℕ → ℕ) (r n : ℕ) → read_out at r (suc n) ≡ word (at r) ++ read_out at (suc r) n
read_out-more at r zero = ap (λ (k : ℕ). word (at k)) (omega arith)
read_out-more at r (suc n) =
    let k : r + suc n ≡ suc r + n = omega arith in
    (λ i. read_out-more at r n i ++ word (at (k i)))

pub read-front : (at : ℕ → ℕ) (words : List (List ℕ)) (r n : ℕ) → n ≤ length words → ((i : ℕ) → i < n → get_or words i [] ≡ word (at (r + i))) → take (2 * n) (flat_map (λ w. w) words) ≡ read_out at r n
read-front at words r zero h each = refl
read-front at [] r (suc n) h each = absurd (omega arith)
read-front at (w ∷ words) r (suc n) h each =
    let first : w ≡ word (at r) = each 0 (omega arith) ∙ ap (λ (k : ℕ). word (at k)) (omega arith) in
    let rest = read-front at words (suc r) n (omega arith) (λ i k. each (suc i) (omega arith) ∙ ap (λ (j : ℕ). word (at j)) (omega arith)) in
    let two : 2 * suc n ≡ suc (suc (2 * n)) = omega arith in
    (λ i. take (two i) (first i ++ flat_map (λ w. w) words))
    ∙ ap (λ (l : List ℕ). word (at r) ++ l) rest
    ∙ sym (read_out-more at r n)
