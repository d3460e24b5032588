-- Pieces that are parted by one test after the other.
use Rattle.std.proofs.Common.{◌≡◌, ℕ, ◌+◌, ◌<◌, Bool, IsTrue, List, [], length, take, get_or, refl, sym, ◌∙◌, subst}
use Rattle.std.proofs.{Common.{All, Contains}, lemmas.List.Elements.{All-from_recursion, All-more, Contains-get_or}}
use Rattle.tier_core.specs.{declared.class.Class.Class, declared.sym.Sym.Sym, Classes.has}
use Rattle.symbol_class.specs.{declared.difference.Difference.Difference, Held.ArePieces}
use Rattle.symbol_class.specs.Parts.{differs, IsPartOf, ArePartedBy}
use Rattle.symbol_class.proofs.Times.{some_from_same}
use Rattle.cert_check.specs.{Fitting.ArePartedByTests, Pieces.IsUniform}

-- what is so of each class of a list is so of one that is in it
pub of_listed : (P : Class → Type 0) (xs : List Class) (x : Class) → All P xs → Contains xs x → P x
of_listed P xs x all c = subst P c.2 (all c.0 x c.1)

pub parted_none : (width : ℕ) (wholes : List Class) → ArePieces width wholes → ArePartedByTests width [] wholes wholes
parted_none width wholes pieces = record {
  pieces = pieces;
  columns = λ column. refl;
  within = λ k d inside. record {
    whole = get_or wholes k d;
    listed = Contains-get_or wholes k d inside;
    within = λ column h. h;
  };
  uniform = λ k d inside x y hx hy. All-from_recursion (λ (test : Class). has test x ≡ has test y) [] tt;
}

pub parted_more : (width : ℕ) (tests : List Class) (n : ℕ) (test : Class) (wholes parts new : List Class) (w : ℕ)
    (difference : Difference) → n < length tests → test ≡ get_or tests n test → w ≡ width
    → ((column : List Sym) → differs difference column ≡ has test column)
    → ArePartedByTests width (take n tests) wholes parts → ArePartedBy w (differs difference) parts new
    → ArePartedByTests width (take (n + 1) tests) wholes new
parted_more width tests n test wholes parts new w difference l is same told a b = record {
  pieces = rw same at b.pieces;
  columns = λ column. some_from_same _ _ _ (b.held column) ∙ a.columns column;
  within = λ k d inside.
      let p = b.within k d inside in
      let q = of_listed (IsPartOf wholes) _ p.whole a.within p.listed in
      record { whole = q.whole; listed = q.listed; within = λ column h. q.within column (p.within column h) };
  uniform = λ k d inside x y hx hy.
      let p = b.within k d inside in
      let so_far = of_listed (IsUniform (take n tests)) parts p.whole a.uniform p.listed x y
      (p.within x hx) (p.within y hy) in
      All-more (λ (t : Class). has t x ≡ has t y) tests n test l so_far
      (subst (λ (t : Class). has t x ≡ has t y) is (sym (told x) ∙ b.alike k d inside x y hx hy ∙ told y));
}

-- a difference that is a class decides alike on the columns of another
pub decided_by : (class test : Class) (difference : Difference) (b : Bool)
    → ((column : List Sym) → differs difference column ≡ has test column)
    → ((column : List Sym) → IsTrue (has class column) → differs difference column ≡ b) → (c d : List Sym)
    → IsTrue (has class c) → IsTrue (has class d) → has test c ≡ has test d
decided_by class test difference b told same c d hc hd = sym (told c) ∙ same c hc ∙ sym (same d hd) ∙ told d

-- one more test holds all columns of a class or none
pub uniform_more : (class test : Class) (tests : List Class) (n : ℕ) → n < length tests → test ≡ get_or tests n test
    → ((c d : List Sym) → IsTrue (has class c) → IsTrue (has class d) → has test c ≡ has test d)
    → IsUniform (take n tests) class → IsUniform (take (n + 1) tests) class
uniform_more class test tests n l is same so_far x y hx hy =
    All-more (λ (t : Class). has t x ≡ has t y) tests n test l (so_far x y hx hy)
    (subst (λ (t : Class). has t x ≡ has t y) is (same x y hx hy))
