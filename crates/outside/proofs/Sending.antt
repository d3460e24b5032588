-- What a sink has taken of a text: a text in two parts, and a part that is all that was taken.
use Rattle.std.proofs.Common.{◌≡◌, ℕ, Option, None, Some, List, [], ◌++◌, length, take, drop, ◌-◌, refl, subst}
use Rattle.std.proofs.{Common.{arith, ap, sym, ◌∙◌, append_assoc, append-nil}, lemmas.Grind.common_steps}
use Rattle.std.proofs.lemmas.List.{take-append-drop}
use Rattle.outside.specs.Sent.{append_if_seen, HasSentPart, Sends}

append_if_seen-nil : (old : Option (List ℕ)) → append_if_seen old [] ≡ old
append_if_seen-nil None = refl
append_if_seen-nil (Some bytes) = ap Some (append-nil bytes)

append_if_seen-twice : (old : Option (List ℕ)) (a b : List ℕ)
    → append_if_seen (append_if_seen old a) b ≡ append_if_seen old (a ++ b)
append_if_seen-twice None a b = refl
append_if_seen-twice (Some bytes) a b = ap Some (append_assoc bytes a b)

-- nothing yet
pub sends_none : (old : Option (List ℕ)) (text : List ℕ) → Sends old text old text
sends_none old text = record { sent = []; taken = sym (append_if_seen-nil old); whole = refl }

-- the whole of a text
pub sends_whole : {old new : Option (List ℕ)} (text : List ℕ) → new ≡ append_if_seen old text → Sends old text new []
sends_whole text e = record { sent = text; taken = e; whole = sym (append-nil text) }

-- all of it
pub sends_all : {old new : Option (List ℕ)} {text : List ℕ} → Sends old text new [] → new ≡ append_if_seen old text
sends_all {old = old} s = s.taken ∙ ap (append_if_seen old) (sym (append-nil s.sent) ∙ sym s.whole)

-- a text, and then what is left of it
pub sends_after : {old mid new : Option (List ℕ)} {text more left : List ℕ}
    → Sends old text mid more → Sends mid more new left → Sends old text new left
sends_after {old = old} {left = left} s p = record {
  sent = s.sent ++ p.sent;
  taken = p.taken ∙ ap (λ t. append_if_seen t p.sent) s.taken ∙ append_if_seen-twice old s.sent p.sent;
  whole = s.whole ∙ ap (λ xs. s.sent ++ xs) p.whole ∙ sym (append_assoc s.sent p.sent left);
}

-- a text with more behind it
pub sends_front : {old new : Option (List ℕ)} {text left : List ℕ} (more : List ℕ)
    → Sends old text new left → Sends old (text ++ more) new (left ++ more)
sends_front {left = left} more s = record {
  sent = s.sent;
  taken = s.taken;
  whole = ap (λ xs. xs ++ more) s.whole ∙ append_assoc s.sent left more;
}

-- what a slice leaves after its first n elements
cut_at : (n : ℕ) (xs : List ℕ) → xs ≡ take n xs ++ take (length xs - n) (drop n xs)
cut_at n xs = grind (arith, common_steps, take-append-drop)

-- the first n bytes of what is left
pub sends_first : {old mid : Option (List ℕ)} {text : List ℕ} (n : ℕ) (rest : List ℕ) {new : Option (List ℕ)}
    → Sends old text mid rest → new ≡ append_if_seen mid (take n rest)
    → Sends old text new (take (length rest - n) (drop n rest))
sends_first {old} {mid} {text} n rest s e =
    let taken = sends_front (take (length rest - n) (drop n rest)) (sends_whole (take n rest) e) in
    sends_after (subst (Sends old text mid) (cut_at n rest) s) taken

pub part_of_sends : {old new : Option (List ℕ)} {text left : List ℕ}
    → Sends old text new left → HasSentPart old text new
part_of_sends {left = left} s = record { left = left; sends = s }

-- a part of a text is a part of a longer one
pub longer_part : {old new : Option (List ℕ)} {text : List ℕ} (more : List ℕ)
    → HasSentPart old text new → HasSentPart old (text ++ more) new
longer_part more p = part_of_sends (sends_front more p.sends)

-- a text, and then a part of what is left of it
pub part_after : {old mid new : Option (List ℕ)} {text more : List ℕ}
    → Sends old text mid more → HasSentPart mid more new → HasSentPart old text new
part_after s p = part_of_sends (sends_after s p.sends)

-- two texts, one after the other, behind the bytes that wait
pub sends_both : {old mid new : Option (List ℕ)} (waits first second : List ℕ) {waits' left : List ℕ}
    → Sends old (waits ++ first) mid waits' → Sends mid (waits' ++ second) new left
    → Sends old (waits ++ (first ++ second)) new left
sends_both {old} {new = new} waits first second {left = left} a b =
    subst (λ text. Sends old text new left) (append_assoc waits first second) (sends_after (sends_front second a) b)
