-- The letters that a session was given, from exchange to exchange.
use Rattle.std.proofs.Common.{◌≡◌, ℕ, ◌-◌, ◌==◌, Bool, List, [], ◌∷◌, ◌++◌, length, filter, map, take, Option, Some, None, refl, sym, ap, ◌∙◌, subst, append_assoc}
use Rattle.std.specs.List.{flat_map}
use Rattle.std.proofs.lemmas.List.{append-nil, map-append}
use Rattle.std.proofs.lemmas.List.Elements.{filter-append}
use Rattle.std.proofs.lemmas.Grind.{flat_map-append}
use Rattle.be_model.specs.Letters.{PlainLetter}
use Rattle.be_model.specs.Schemas.{Attributes}
use Rattle.be_change.specs.Box.{box_after, KeepsBox}
use Rattle.be_change.specs.History.{Entry}
use Rattle.be_change.specs.Requests.{Note, Exchange}
use Rattle.be_protocol.specs.Replies.{note_line, with_lf}
use Rattle.be_protocol.specs.Transcript.{texts}
use Rattle.be_board.specs.Letters.{note_of}
use Rattle.be_board.specs.State.{BoardState, LeavesLetters}
use Rattle.be_board.specs.Word.{Word}
use Rattle.be_session.specs.Bearing.{Bears}
use Rattle.be_session.specs.Given.{letters_of, letters_given, GivesNoted, GivesLetters, TakenInPart, GivesInPart}

-- a box that is kept by exchanges in two parts
pub box_join : (h : List Entry) (ps qs : List Exchange) (x y z : List Note) → KeepsBox h ps x y → KeepsBox h qs y z → KeepsBox h (ps ++ qs) x z
box_join h [] qs x y z a b = subst (λ (box : List Note). KeepsBox h qs box z) a b
box_join h (p ∷ ps) qs x y z a b = (a.0, box_join h ps qs (box_after h p x) y z a.1 b)

abbrev for_session : ℕ → PlainLetter → Bool
for_session k l = l.session == k

noted_on : (w v u : Word) (ps qs : List Exchange) → v.session ≡ w.session → GivesNoted w v ps → GivesNoted v u qs → GivesNoted w u (ps ++ qs)
noted_on w v u ps qs same a b = (
  a.0 ++ b.0,
  b.1 ∙ ap (λ (l : List PlainLetter). l ++ b.0) a.1 ∙ append_assoc w.notes a.0 b.0,
  flat_map-append (λ (p : Exchange). letters_of p.1) ps qs
      ∙ ap (λ (l : List Note). l ++ letters_given qs) a.2
      ∙ ap (λ (l : List Note). map note_of (filter (for_session w.session) a.0) ++ l) (b.2 ∙ ap (λ (k : ℕ). map note_of (filter (for_session k) b.0)) same)
      ∙ sym (map-append note_of (filter (for_session w.session) a.0) (filter (for_session w.session) b.0))
      ∙ ap (map note_of) (sym (filter-append (for_session w.session) a.0 b.0)),
)

-- what bears out the later word bears out the earlier one
abbrev Later : BoardState → BoardState → Type 0
Later b b' = (h : List Entry) → Bears h b'.word → Bears h b.word

pub letters_none : (o : Option (List Note)) (b : BoardState) → b.box ≡ o → GivesLetters o [] b b
letters_none None b e = (e, ([], sym (append-nil b.word.notes), refl))
letters_none (Some box) b e = (refl, box, e, λ h bears. refl)

pub letters_on : (o : Option (List Note)) (ps qs : List Exchange) (b c d : BoardState) → c.word.session ≡ b.word.session → Later c d
    → GivesLetters o ps b c → GivesLetters c.box qs c d → GivesLetters o (ps ++ qs) b d
letters_on None ps qs b c d same later g n =
    let m = subst (λ (o : Option (List Note)). GivesLetters o qs c d) g.0 n in (m.0, noted_on b.word c.word d.word ps qs same g.1 m.1)
letters_on (Some box) ps qs b c d same later g n =
    let m = subst (λ (o : Option (List Note)). GivesLetters o qs c d) g.2 n in (
      m.0 ∙ g.0,
      m.1,
      m.2,
      λ h bears. box_join h ps qs box g.1 m.1 (g.3 h (later h bears)) (m.3 h bears),
    )

-- no letters moved since
pub letters_then : (o : Option (List Note)) (ps : List Exchange) (b c d : BoardState) → Later c d → LeavesLetters c d → GivesLetters o ps b c → GivesLetters o ps b d
letters_then None ps b c d later l g = (l.box ∙ g.0, (g.1.0, l.notes ∙ g.1.1, g.1.2))
letters_then (Some box) ps b c d later l g = (l.notes ∙ g.0, g.1, l.box ∙ g.2, λ h bears. g.3 h (later h bears))

taken_behind : (s : Attributes) (ps : List Exchange) (p : Exchange) (out : List ℕ) (left : List Note) → TakenInPart s [] p.1 out left → TakenInPart s ps p.1 (texts s ps ++ out) left
taken_behind s ps p out left t = record {
  taken = t.taken;
  letters = t.letters;
  given = (
    t.given.0,
    ap (λ (x : List ℕ). texts s ps ++ x) t.given.1
        ∙ sym (append_assoc (texts s ps) (flat_map (λ (l : Note). with_lf (note_line s l)) (take (length t.taken - 1) t.taken)) t.given.0),
  );
}

-- a last reply that was cut short
pub letters_cut : (o : Option (List Note)) (s : Attributes) (ps : List Exchange) (p : Exchange) (out : List ℕ) (b c d : BoardState) → c.word.session ≡ b.word.session → Later c d
    → GivesLetters o ps b c → GivesInPart c.box s [] p out c d → GivesInPart o s ps p (texts s ps ++ out) b d
letters_cut None s ps p out b c d same later g n =
    let m = subst (λ (o : Option (List Note)). GivesInPart o s [] p out c d) g.0 n in
    (m.0, noted_on b.word c.word d.word ps (p ∷ []) same g.1 m.1, taken_behind s ps p out [] m.2)
letters_cut (Some box) s ps p out b c d same later g n =
    let m = subst (λ (o : Option (List Note)). GivesInPart o s [] p out c d) g.2 n in (
      m.0 ∙ g.0,
      m.1,
      m.2,
      m.3,
      λ h bears. box_join h ps (p ∷ []) box g.1 m.2 (g.3 h (later h bears)) (m.4 h bears),
      taken_behind s ps p out m.1 m.5,
    )

pub letters_cut_then : (o : Option (List Note)) (s : Attributes) (ps : List Exchange) (p : Exchange) (out : List ℕ) (b c d : BoardState) → Later c d → LeavesLetters c d
    → GivesInPart o s ps p out b c → GivesInPart o s ps p out b d
letters_cut_then None s ps p out b c d later l g = (l.box ∙ g.0, (g.1.0, l.notes ∙ g.1.1, g.1.2), g.2)
letters_cut_then (Some box) s ps p out b c d later l g =
    (l.notes ∙ g.0, g.1, g.2, l.box ∙ g.3, λ h bears. g.4 h (later h bears), g.5)
