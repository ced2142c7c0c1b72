-- A body laid out and found again: each field in turn.
use Rattle.std.proofs.Common.{◌≡◌, ℕ, ◌+◌, ◌*◌, ◌/◌, ◌%◌, ◌<◌, ◌≤◌, Bool, true, false, cond, eqb, leb, List, [], ◌∷◌, ◌++◌, map, length, get_or, take, drop, replicate, sym, refl, ap, ◌∙◌, arith, lit<}
use Rattle.std.specs.List.{range_with_len}
use Rattle.std.proofs.lemmas.List.FromFn.{fill_by_all}
use Rattle.std.proofs.lemmas.List.{length-take-le, get_or-take, get_or-drop, take-append-drop, take_at, drop_at, length-append, length-drop}
use Rattle.std.proofs.lemmas.Bool.{eqb-true, leb-true}
use Rattle.telegram.specs.declared.forms.Form.{Form}
use Rattle.telegram.specs.Forms.{span, fixed, fits}
use Rattle.telegram.specs.Layout.{Fields, word, word_of, part, body, zeros, decode, plain, past_serial, past_subfunction, past_register, past_value, past_size, past_code}
use Rattle.telegram.specs.Writes.{extent}

-- the first k elements, one by one: at a numeral k the right side computes
pub front-is : (k : ℕ) (b : List ℕ) → k ≤ length b → take k b ≡ map (λ i. get_or b i 0) (range_with_len 0 k)
front-is k b h = fill_by_all (λ i. get_or b i 0) (take k b) k 0 (length-take-le k b h) (λ i lt. get_or-take k b i 0 lt)

-- the fields of the struct fit their places
pub record Sized (f : Fields) : Type 0 where
  pub six : length f.serial ≡ 6
  pub subfunction16 : f.subfunction < 65536
  pub register16 : f.register < 65536
  pub value16 : f.value < 65536

abbrev pub Bytes : List ℕ → Type 0
Bytes b = (i : ℕ) → get_or b i 0 < 256

-- what a reader takes of so many bytes, if the field is there

pub word-taken : (has : Bool) (b l : List ℕ) → l ≡ cond has (take 2 b) (replicate 2 0) → word_of l ≡ cond has (word_of b) 0
word-taken true b l h = ap word_of h ∙ (λ i. get_or-take 2 b 0 0 (lit< tt) i * 256 + get_or-take 2 b 1 0 (lit< tt) i)
word-taken false b l h = ap word_of h

pub byte-taken : (has : Bool) (b l : List ℕ) → l ≡ cond has (take 1 b) (replicate 1 0) → get_or l 0 0 ≡ cond has (get_or b 0 0) 0
byte-taken true b l h = ap (λ (k : List ℕ). get_or k 0 0) h ∙ get_or-take 1 b 0 0 (lit< tt)
byte-taken false b l h = ap (λ (k : List ℕ). get_or k 0 0) h

-- from fields to bytes and back

past : (has : Bool) (n : ℕ) (p rest : List ℕ) → length p ≡ n → drop (span has n) (part has p ++ rest) ≡ rest
past true n p rest h = drop_at p rest n h
past false n p rest h = refl

word-found : (has : Bool) (w : ℕ) (rest : List ℕ) → w < 65536 → cond has (word_of (part has (word w) ++ rest)) 0 ≡ cond has w 0
word-found true w rest h = omega arith
word-found false w rest h = refl

byte-found : (has : Bool) (b : ℕ) (rest : List ℕ) → cond has (get_or (part has (b ∷ []) ++ rest) 0 0) 0 ≡ cond has b 0
byte-found true b rest = refl
byte-found false b rest = refl

serial-found : (has : Bool) (s rest : List ℕ) → length s ≡ 6 → cond has (take 6 (part has s ++ rest)) zeros ≡ cond has s zeros
serial-found true s rest h = take_at s rest 6 h
serial-found false s rest h = refl

contents-found : (has : Bool) (d : List ℕ) → cond has (part has d) [] ≡ cond has d []
contents-found true d = refl
contents-found false d = refl

pub part-long : (has : Bool) (n : ℕ) (p : List ℕ) → length p ≡ n → length (part has p) ≡ span has n
part-long true n p h = h
part-long false n p h = refl

module _ (F : Form) (f : Fields) (s : Sized f) where
  after-code : List ℕ
  after-code = part F.«data» f.contents

  after-size : List ℕ
  after-size = part F.code (f.code ∷ []) ++ after-code

  after-value : List ℕ
  after-value = part F.size (f.size ∷ []) ++ after-size

  after-register : List ℕ
  after-register = part F.value (word f.value) ++ after-value

  after-subfunction : List ℕ
  after-subfunction = part F.register (word f.register) ++ after-register

  after-serial : List ℕ
  after-serial = part F.subfunction (word f.subfunction) ++ after-subfunction

  pub decode-body : decode F f.address f.command (body F f) ≡ plain F f
  unfolding after-serial after-subfunction after-register after-value after-size after-code
  decode-body =
      let b = body F f in
      let p1 : past_serial F b ≡ after-serial = past F.serial 6 f.serial after-serial s.six in
      let p2 : past_subfunction F b ≡ after-subfunction = ap (drop (span F.subfunction 2)) p1 ∙ past F.subfunction 2 (word f.subfunction) after-subfunction refl in
      let p3 : past_register F b ≡ after-register = ap (drop (span F.register 2)) p2 ∙ past F.register 2 (word f.register) after-register refl in
      let p4 : past_value F b ≡ after-value = ap (drop (span F.value 2)) p3 ∙ past F.value 2 (word f.value) after-value refl in
      let p5 : past_size F b ≡ after-size = ap (drop (span F.size 1)) p4 ∙ past F.size 1 (f.size ∷ []) after-size refl in
      let p6 : past_code F b ≡ after-code = ap (drop (span F.code 1)) p5 ∙ past F.code 1 (f.code ∷ []) after-code refl in
      let e0 = serial-found F.serial f.serial after-serial s.six in
      let e1 = ap (λ l. cond F.subfunction (word_of l) 0) p1 ∙ word-found F.subfunction f.subfunction after-subfunction s.subfunction16 in
      let e2 = ap (λ l. cond F.register (word_of l) 0) p2 ∙ word-found F.register f.register after-register s.register16 in
      let e3 = ap (λ l. cond F.value (word_of l) 0) p3 ∙ word-found F.value f.value after-value s.value16 in
      let e4 = ap (λ l. cond F.size (get_or l 0 0) 0) p4 ∙ byte-found F.size f.size after-size in
      let e5 = ap (λ l. cond F.code (get_or l 0 0) 0) p5 ∙ byte-found F.code f.code after-code in
      let e6 = ap (λ (l : List ℕ). cond F.«data» l []) p6 ∙ contents-found F.«data» f.contents in
      λ i. record { address = f.address; command = f.command; serial = e0 i; subfunction = e1 i; register = e2 i; value = e3 i; size = e4 i; code = e5 i; contents = e6 i }

-- how long the body is
pub body-long : (F : Form) (f : Fields) → length f.serial ≡ 6 → length (body F f) ≡ extent F f
body-long F f six =
    let a = part-long F.serial 6 f.serial six in
    let b = part-long F.subfunction 2 (word f.subfunction) refl in
    let c = part-long F.register 2 (word f.register) refl in
    let d = part-long F.value 2 (word f.value) refl in
    let e = part-long F.size 1 (f.size ∷ []) refl in
    let g = part-long F.code 1 (f.code ∷ []) refl in
    let h = part-long F.«data» (length f.contents) f.contents refl in
    simp length-append (omega arith)

-- from bytes to fields and back

pub small_past : (n : ℕ) (b : List ℕ) → Bytes b → Bytes (drop n b)
small_past n b h i = rw (get_or-drop n b i 0) (h (n + i))

serial-back : (has : Bool) (b : List ℕ) → part has (cond has (take 6 b) zeros) ++ drop (span has 6) b ≡ b
serial-back true b = take-append-drop 6 b
serial-back false b = refl

word_back : (has : Bool) (b : List ℕ) → span has 2 ≤ length b → Bytes b → part has (word (cond has (word_of b) 0)) ++ drop (span has 2) b ≡ b
word_back true b h small =
    let high : word_of b / 256 % 256 ≡ get_or b 0 0 = omega (arith, small 0, small 1) in
    let low : word_of b % 256 ≡ get_or b 1 0 = omega (arith, small 0, small 1) in
    let two : word (word_of b) ≡ take 2 b = (λ i. high i ∷ low i ∷ []) ∙ sym (front-is 2 b h) in
    ap (λ l. l ++ drop 2 b) two ∙ take-append-drop 2 b
word_back false b h small = refl

byte-back : (has : Bool) (b : List ℕ) → span has 1 ≤ length b → part has (cond has (get_or b 0 0) 0 ∷ []) ++ drop (span has 1) b ≡ b
byte-back true b h = ap (λ l. l ++ drop 1 b) (sym (front-is 1 b h)) ∙ take-append-drop 1 b
byte-back false b h = refl

none_left : (b : List ℕ) → length b ≡ 0 → [] ≡ b
none_left [] h = refl
none_left (x ∷ b) h = absurd (omega arith)

contents-back : (has : Bool) (b : List ℕ) → (has ≡ false → length b ≡ 0) → part has (cond has b []) ≡ b
contents-back true b h = refl
contents-back false b h = none_left b (h refl)

fits-long : (has : Bool) (n m k : ℕ) → cond has (leb (n + k) m) (eqb m n) ≡ true → n ≤ m
fits-long true n m k h = omega (arith, leb-true (n + k) m h)
fits-long false n m k h = omega (arith, eqb-true m n h)

fits_exact : (has : Bool) (n m k : ℕ) → cond has (leb (n + k) m) (eqb m n) ≡ true → has ≡ false → m ≡ n
fits_exact true n m k h e = cc
fits_exact false n m k h e = eqb-true m n h

pub long_enough : (F : Form) (n : ℕ) → fits F n ≡ true → fixed F ≤ n
long_enough F n h = fits-long F.«data» (fixed F) n (span F.subfunction 1) h

pub long_exactly : (F : Form) (n : ℕ) → fits F n ≡ true → F.«data» ≡ false → n ≡ fixed F
long_exactly F n h e = fits_exact F.«data» (fixed F) n (span F.subfunction 1) h e

pub body-decode : (F : Form) (a c : ℕ) (b : List ℕ) → fits F (length b) ≡ true → Bytes b → body F (decode F a c b) ≡ b
body-decode F a c b fit small =
    let n = long_enough F (length b) fit in
    let l1 = length-drop (span F.serial 6) b in
    let l2 = length-drop (span F.subfunction 2) (past_serial F b) in
    let l3 = length-drop (span F.register 2) (past_subfunction F b) in
    let l4 = length-drop (span F.value 2) (past_register F b) in
    let l5 = length-drop (span F.size 1) (past_value F b) in
    let l6 = length-drop (span F.code 1) (past_size F b) in
    let s1 = small_past (span F.serial 6) b small in
    let s2 = small_past (span F.subfunction 2) (past_serial F b) s1 in
    let s3 = small_past (span F.register 2) (past_subfunction F b) s2 in
    let e7 = contents-back F.«data» (past_code F b) (λ e. omega (arith, long_exactly F (length b) fit e)) in
    let e6 = ap (λ l. part F.code (cond F.code (get_or (past_size F b) 0 0) 0 ∷ []) ++ l) e7 ∙ byte-back F.code (past_size F b) (omega arith) in
    let e5 = ap (λ l. part F.size (cond F.size (get_or (past_value F b) 0 0) 0 ∷ []) ++ l) e6 ∙ byte-back F.size (past_value F b) (omega arith) in
    let e4 = ap (λ l. part F.value (word (cond F.value (word_of (past_register F b)) 0)) ++ l) e5 ∙ word_back F.value (past_register F b) (omega arith) s3 in
    let e3 = ap (λ l. part F.register (word (cond F.register (word_of (past_subfunction F b)) 0)) ++ l) e4 ∙ word_back F.register (past_subfunction F b) (omega arith) s2 in
    let e2 = ap (λ l. part F.subfunction (word (cond F.subfunction (word_of (past_serial F b)) 0)) ++ l) e3 ∙ word_back F.subfunction (past_serial F b) (omega arith) s1 in
    ap (λ l. part F.serial (cond F.serial (take 6 b) zeros) ++ l) e2 ∙ serial-back F.serial b
