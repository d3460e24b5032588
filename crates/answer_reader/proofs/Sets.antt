-- A set at the front of a text: what is decoded is the set whose text stands there.
use Rattle.std.proofs.Common.{◌≡◌, ℕ, zero, suc, ◌+◌, ◌==◌, ◌<◌, ◌≤◌, ◌&&◌, ◌||◌, not, Bool, true, false, cond}
use Rattle.std.proofs.Common.{List, [], ◌∷◌, ◌++◌, length, take, drop, Option, Some, None, option_map, refl, ap}
use Rattle.std.proofs.Common.{sym, ◌∙◌, subst, arith, take-append-drop, append_assoc, nat_le, nat_lt, eqb-true}
use Rattle.std.proofs.{Common.{leb-true, ltb-true, ⊎_elim}, lemmas.Bool.{false≢true, cases_lt, and_parts}}
use Rattle.std.proofs.lemmas.Slice.Eq.{bytes_eq-Decides}
use Rattle.std.specs.{List.{find, range_with_len, AllByRecursion}, Str.bytes_eq}
use Rattle.tier_core.specs.{declared.sym.Sym.Sym, declared.sym.Sym.TheVariants.{Outside, Inside, Start, End, Both}}
use Rattle.tier_core.specs.{Sets.single_set, Symbols.{byte_of, sym_of, symbols as all_symbols}}
use Rattle.answer_text.specs.Text.{set_text}
use Rattle.answer_reader.specs.{Cuts.begins, Classes.{front_set, behind_set, set_and_rest}}
use Rattle.answer_reader.specs.Decoding.{with_symbol, symbols_from, has_two, closed_by, single_and_rest, decode_set}

-- ---- a front

pub begins_split : (front bytes : List ℕ) → begins front bytes ≡ true → bytes ≡ front ++ drop (length front) bytes
begins_split front bytes h = sym (take-append-drop (length front) bytes)
    ∙ ap (λ f. f ++ drop (length front) bytes) ((bytes_eq-Decides _ _).0 h)

pub take_front : (front rest : List ℕ) → take (length front) (front ++ rest) ≡ front
take_front [] rest = refl
take_front (b ∷ front) rest = ap (λ xs. b ∷ xs) (take_front front rest)

pub drop_front : (front rest : List ℕ) → drop (length front) (front ++ rest) ≡ rest
drop_front [] rest = refl
drop_front (b ∷ front) rest = drop_front front rest

pub begins_front : (front rest : List ℕ) → begins front (front ++ rest) ≡ true
begins_front front rest = (bytes_eq-Decides _ front).1 (take_front _ rest)

-- ---- each text of a set is decoded as that set

abbrev pub IsDecoded : ℕ → Type 0
IsDecoded set = (rest : List ℕ) → decode_set (set_text set ++ rest) ≡ Some (set, rest)

pub each_decoded : AllByRecursion IsDecoded (range_with_len 1 31)
each_decoded = (
  λ rest. refl,
  (
    λ rest. refl,
    (
      λ rest. refl,
      (
        λ rest. refl,
        (
          λ rest. refl,
          (
            λ rest. refl,
            (
              λ rest. refl,
              (
                λ rest. refl,
                (
                  λ rest. refl,
                  (
                    λ rest. refl,
                    (
                      λ rest. refl,
                      (
                        λ rest. refl,
                        (
                          λ rest. refl,
                          (
                            λ rest. refl,
                            (
                              λ rest. refl,
                              (
                                λ rest. refl,
                                (
                                  λ rest. refl,
                                  (
                                    λ rest. refl,
                                    (
                                      λ rest. refl,
                                      (
                                        λ rest. refl,
                                        (
                                          λ rest. refl,
                                          (
                                            λ rest. refl,
                                            (
                                              λ rest. refl,
                                              (
                                                λ rest. refl,
                                                (
                                                  λ rest. refl,
                                                  (
                                                    λ rest. refl,
                                                    (
                                                      λ rest. refl,
                                                      (
                                                        λ rest. refl,
                                                        (λ rest. refl, (λ rest. refl, (λ rest. refl, tt))),
                                                      ),
                                                    ),
                                                  ),
                                                ),
                                              ),
                                            ),
                                          ),
                                        ),
                                      ),
                                    ),
                                  ),
                                ),
                              ),
                            ),
                          ),
                        ),
                      ),
                    ),
                  ),
                ),
              ),
            ),
          ),
        ),
      ),
    ),
  ),
)

-- ---- the first number that passes

found_at : (P : ℕ → Type 0) (test : ℕ → Bool) (y : ℕ) (ys : List ℕ) (x : ℕ) (t : Bool) → test y ≡ t → P y
    → (find test ys ≡ Some x → (test x ≡ true) × P x) → cond t (Some y) (find test ys) ≡ Some x → (test x ≡ true) × P x
found_at P test y ys x true e p rest h = let same : y ≡ x = cc in (sym (ap test same) ∙ e, rw same at p)
found_at P test y ys x false e p rest h = rest h

found : (P : ℕ → Type 0) (test : ℕ → Bool) (xs : List ℕ) (x : ℕ) → AllByRecursion P xs → find test xs ≡ Some x
    → (test x ≡ true) × P x
found P test [] x a h = absurd (let n : ⊥ = cc in n)
found P test (y ∷ ys) x a h = found_at P _ y ys x _ refl a.0 (found P test ys x a.1) h

none_at : (test : ℕ → Bool) (a n x : ℕ) (t : Bool) → test a ≡ t
    → (a + 1 ≤ x → find test (range_with_len (a + 1) n) ≡ None → test x ≡ false)
    → cond t (Some a) (find test (range_with_len (a + 1) n)) ≡ None → a ≤ x → test x ≡ false
none_at test a n x true e rest h l = absurd (let n : ⊥ = cc in n)
none_at test a n x false e rest h l = ⊎_elim
    (λ later. rest (omega arith) h)
    (λ here. let same : x ≡ a = omega arith in ap test same ∙ e)
    (cases_lt a x)

none_passes : (test : ℕ → Bool) (a n x : ℕ) → find test (range_with_len a n) ≡ None → a ≤ x → x < a + n → test x ≡ false
none_passes test a zero x h l u = absurd (omega arith)
none_passes test a (suc n) x h l u = none_at _ a n x _ refl (λ k g. none_passes test (a + 1) n x g k (omega arith)) h l

-- ---- what is decoded stands at the front

-- the number of the symbols that were taken, and their text
abbrev number_of : Bool → Bool → Bool → Bool → Bool → ℕ
number_of a b c d e = cond a 1 0 + cond b 2 0 + cond c 4 0 + cond d 8 0 + cond e 16 0

abbrev taken : Bool → ℕ → List ℕ
taken t byte = cond t (byte ∷ []) []

abbrev text_of : Bool → Bool → Bool → Bool → Bool → List ℕ
text_of a b c d e = taken a 45 ++ (taken b 43 ++ (taken c 91 ++ (taken d 93 ++ taken e 124)))

record Took (bit byte : ℕ) (before after : ℕ × List ℕ) : Type 0 where
  flag : Bool
  set : after.0 ≡ before.0 + cond flag bit 0
  text : before.1 ≡ taken flag byte ++ after.1

took_at : (bit byte set b : ℕ) (bytes : List ℕ) (t : Bool) → (b == byte) ≡ t
    → Took bit byte (set, b ∷ bytes) (cond t (set + bit, bytes) (set, b ∷ bytes))
took_at bit byte set b bytes true e = record { flag = true; set = refl; text = ap (λ x. x ∷ bytes) (eqb-true b byte e) }
took_at bit byte set b bytes false e = record { flag = false; set = omega arith; text = refl }

took : (bit byte : ℕ) (before : ℕ × List ℕ) → Took bit byte before (with_symbol bit byte before)
took bit byte (set, []) = record { flag = false; set = omega arith; text = refl }
took bit byte (set, b ∷ bytes) = took_at _ _ _ b _ _ refl

-- what was taken of the five symbols, and what is left
record Symbols (bytes : List ℕ) (after : ℕ × List ℕ) : Type 0 where
  a : Bool
  b : Bool
  c : Bool
  d : Bool
  e : Bool
  set : after.0 ≡ number_of a b c d e
  text : bytes ≡ text_of a b c d e ++ after.1

symbols : (bytes : List ℕ) → Symbols bytes (symbols_from bytes)
symbols bytes =
    let s0 : ℕ × List ℕ = (0, bytes) in
    let s1 = with_symbol 1 45 s0 in
    let s2 = with_symbol 2 43 s1 in
    let s3 = with_symbol 4 91 s2 in
    let s4 = with_symbol 8 93 s3 in
    let t1 = took 1 45 s0 in
    let t2 = took 2 43 s1 in
    let t3 = took 4 91 s2 in
    let t4 = took 8 93 s3 in
    let t5 = took 16 124 s4 in
    record {
      a = t1.flag;
      b = t2.flag;
      c = t3.flag;
      d = t4.flag;
      e = t5.flag;
      set = omega (arith, t1.set, t2.set, t3.set, t4.set, t5.set);
      text = t1.text
          ∙ ap (λ x. taken t1.flag 45 ++ x)
          (t2.text ∙ ap (λ x. taken t2.flag 43 ++ x)
          (t3.text ∙ ap (λ x. taken t3.flag 91 ++ x) (t4.text ∙ ap (λ x. taken t4.flag 93 ++ x) t5.text)))
          ∙ sym (simp append_assoc);
    }

both : (Bool → Bool) → Bool
both p = p true && p false

at_both : (p : Bool → Bool) (t : Bool) → both p ≡ true → p t ≡ true
unfolding both
at_both p true h = (and_parts (p true) (p false) h).0
at_both p false h = (and_parts (p true) (p false) h).1

-- the text in braces is that of the set
abbrev braces : Bool → Bool → Bool → Bool → Bool → Bool
braces a b c d e = not (has_two (number_of a b c d e))
    || (bytes_eq (set_text (number_of a b c d e)) (123 ∷ (text_of a b c d e ++ 125 ∷ [])) && nat_le 1
    (number_of a b c d e) && nat_lt (number_of a b c d e) 32)

all_braces : both (λ a. both (λ b. both (λ c. both (λ d. both (λ e. braces a b c d e))))) ≡ true
unfolding both
all_braces = refl

in_braces : (a b c d e : Bool) → braces a b c d e ≡ true
in_braces a b c d e = at_both _ e (at_both _ d (at_both _ c (at_both _ b (at_both _ a all_braces))))

-- a set from 1 to 31 whose text stands at the front
record IsFront (bytes : List ℕ) (front : ℕ × List ℕ) : Type 0 where
  least : 1 ≤ front.0
  most : front.0 < 32
  text : bytes ≡ set_text front.0 ++ front.1

record IsBraced (a b c d e : Bool) : Type 0 where
  least : 1 ≤ number_of a b c d e
  most : number_of a b c d e < 32
  text : set_text (number_of a b c d e) ≡ 123 ∷ (text_of a b c d e ++ 125 ∷ [])

braced_at : (n : ℕ) (t : Bool) (text braced : List ℕ) → (not t || (bytes_eq text braced && nat_le 1 n && nat_lt n 32))
    ≡ true → t ≡ true → (text ≡ braced) × ((1 ≤ n) × (n < 32))
braced_at n true text braced h e =
    let both = and_parts (bytes_eq text braced) (nat_le 1 n && nat_lt n 32)
    (and_first (bytes_eq text braced) (nat_le 1 n) (nat_lt n 32) h) in
    let rest = and_parts (nat_le 1 n) (nat_lt n 32) both.1 in
    ((bytes_eq-Decides _ _).0 both.0, (leb-true 1 n rest.0, ltb-true n 32 rest.1))
  where
    and_first : (x y z : Bool) → (x && y && z) ≡ true → (x && (y && z)) ≡ true
    and_first true y z h = h
    and_first false y z h = h
braced_at n false text braced h e = absurd (false≢true e)

closed_at : (bytes : List ℕ) (n b : ℕ) (rest : List ℕ) (front : ℕ × List ℕ) (s : Symbols bytes (n, b ∷ rest))
    (t : Bool) → (has_two n && (b == 125)) ≡ t
    → cond t (Some (n, rest)) None ≡ Some front → IsFront (123 ∷ bytes) front
closed_at bytes n b rest front s true e h =
    let two : has_two (number_of s.a s.b s.c s.d s.e) ≡ true = sym (ap has_two s.set)
    ∙ (and_parts (has_two n) (b == 125) e).0 in
    let brace : b ≡ 125 = eqb-true b 125 (and_parts (has_two n) (b == 125) e).1 in
    let f = braced_at (number_of s.a s.b s.c s.d s.e) (has_two (number_of s.a s.b s.c s.d s.e))
    (set_text (number_of s.a s.b s.c s.d s.e)) (123 ∷ (text_of s.a s.b s.c s.d s.e ++ 125 ∷ []))
    (in_braces s.a s.b s.c s.d s.e) two in
    let is : (n, rest) ≡ front = cc in
    subst (IsFront (123 ∷ bytes)) is (record {
      least = omega (arith, f.1.0, s.set);
      most = omega (arith, f.1.1, s.set);
      text = ap (λ x. 123 ∷ x) (s.text ∙ ap (λ x. text_of s.a s.b s.c s.d s.e ++ x ∷ rest) brace)
          ∙ ap (λ x. 123 ∷ x) (sym (append_assoc (text_of s.a s.b s.c s.d s.e) (125 ∷ []) rest))
          ∙ ap (λ x. x ++ rest) (sym f.0) ∙ ap (λ m. set_text m ++ rest) (sym s.set);
    })
closed_at bytes n b rest front s false e h = absurd (let n : ⊥ = cc in n)

closed : (bytes : List ℕ) (after front : ℕ × List ℕ) → Symbols bytes after → closed_by after ≡ Some front
    → IsFront (123 ∷ bytes) front
closed bytes (n, []) front s h = absurd (let n : ⊥ = cc in n)
closed bytes (n, b ∷ rest) front s h = closed_at _ n b _ _ s _ refl h

single : (s : Sym) → (set_text (single_set s) ≡ byte_of s ∷ []) × ((1 ≤ single_set s) × (single_set s < 32))
single Outside = (refl, (omega arith, omega arith))
single Inside = (refl, (omega arith, omega arith))
single Start = (refl, (omega arith, omega arith))
single End = (refl, (omega arith, omega arith))
single Both = (refl, (omega arith, omega arith))

sym_here : (b : ℕ) (x : Sym) (xs : List Sym) (s : Sym) (t : Bool) → (byte_of x == b) ≡ t
    → (find (λ y. byte_of y == b) xs ≡ Some s → byte_of s ≡ b)
    → cond t (Some x) (find (λ y. byte_of y == b) xs) ≡ Some s → byte_of s ≡ b
sym_here b x xs s true e rest h = let same : x ≡ s = cc in sym (ap byte_of same) ∙ eqb-true (byte_of x) b e
sym_here b x xs s false e rest h = rest h

sym_at : (b : ℕ) (xs : List Sym) (s : Sym) → find (λ x. byte_of x == b) xs ≡ Some s → byte_of s ≡ b
sym_at b [] s h = absurd (let n : ⊥ = cc in n)
sym_at b (x ∷ xs) s h = sym_here b x xs s _ refl (sym_at b xs s) h

alone_front : (b : ℕ) (bytes : List ℕ) (o : Option Sym) (front : ℕ × List ℕ) → sym_of b ≡ o
    → option_map (single_and_rest bytes) o ≡ Some front → IsFront (b ∷ bytes) front
alone_front b bytes None front e h = absurd (let n : ⊥ = cc in n)
alone_front b bytes (Some s) front e h =
    let is : (single_set s, bytes) ≡ front = cc in
    let f = single s in
    subst (IsFront (b ∷ bytes)) is
    (record {
      least = f.1.0;
      most = f.1.1;
      text = ap (λ x. x ∷ bytes) (sym (sym_at b all_symbols s e))
          ∙ ap (λ x. x ++ bytes) (sym f.0);
    })

decoded_at : (b : ℕ) (bytes : List ℕ) (front : ℕ × List ℕ) (t : Bool) → (b == 123) ≡ t
    → cond t (closed_by (symbols_from bytes)) (option_map (single_and_rest bytes) (sym_of b)) ≡ Some front
    → IsFront (b ∷ bytes) front
decoded_at b bytes front true e h = rw (eqb-true b 123 e) (closed _ _ _ (symbols _) h)
decoded_at b bytes front false e h = alone_front b _ _ _ refl h

stands : (bytes : List ℕ) (front : ℕ × List ℕ) → decode_set bytes ≡ Some front → IsFront bytes front
stands [] front h = absurd (let n : ⊥ = cc in n)
stands (b ∷ bytes) front h = decoded_at b _ _ _ refl h

-- ---- so both find the same

none_decoded : (bytes : List ℕ) (o : Option (ℕ × List ℕ)) → decode_set bytes ≡ o → front_set bytes ≡ None → o ≡ None
none_decoded bytes None e h = refl
none_decoded bytes (Some front) e h =
    let f = stands bytes front e in
    let no = none_passes (λ set. begins (set_text set) bytes) 1 31 front.0 h f.least (omega (arith, f.most)) in
    absurd (false≢true (sym no ∙ ap (begins (set_text front.0)) f.text ∙ begins_front (set_text front.0) front.1))

by_set : (bytes : List ℕ) (o : Option ℕ) → front_set bytes ≡ o → decode_set bytes ≡ option_map (behind_set bytes) o
by_set bytes None e = none_decoded bytes (decode_set bytes) refl e
by_set bytes (Some set) e =
    let f = found IsDecoded (λ s. begins (set_text s) bytes) (range_with_len 1 31) set each_decoded e in
    ap decode_set (begins_split (set_text set) bytes f.0) ∙ f.1 (drop (length (set_text set)) bytes)

pub decoded_is_front : (bytes : List ℕ) → decode_set bytes ≡ set_and_rest bytes
unfolding set_and_rest
decoded_is_front bytes = by_set bytes (front_set bytes) refl
