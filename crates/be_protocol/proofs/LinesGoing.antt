-- The lines that were read of a source are the first of all its lines.
use Rattle.std.proofs.Common.{◌≡◌, inl, inr, ℕ, ◌+◌, ◌≤◌, Bool, true, false, List, [], ◌∷◌, ◌++◌, length, Option, Some, None, refl, sym, ap, ◌∙◌, subst, arith, append_assoc}
use Rattle.std.proofs.lemmas.List.{append-nil}
use Rattle.be_base.specs.declared.limits.TheConstants.{LINE_BYTES, SOURCE_BYTES}
use Rattle.be_base.specs.Counts.{HasRisenBy, RisesBy}
use Rattle.be_io.specs.Told.{WhereTold}
use Rattle.be_io.specs.Lines.{TextLine, closed_line, line_of, read_line, lines}
use Rattle.be_io.specs.Reader.{NextLine, BreaksOff}
use Rattle.be_io.proofs.LineLemmas.{lines-ClosedLine, lines-OpenLine, lines-begun}
use Rattle.be_protocol.specs.Conversation.{TakesWithin}
use Rattle.be_protocol.specs.LinesRead.{read_ahead, ReadToEnd, ReadInPart, ReadFirstLines}
use Rattle.be_protocol.specs.Turns.{TakesAlike, IsFirstLine, EndsAt, LinesGoOn}

-- one more line
lines_on : (start unread b bytes unread' a : List ℕ) (ended : Bool) (done : List TextLine) → LinesGoOn false start unread b done
    → NextLine ended (unread ++ b) bytes (unread' ++ a) → LinesGoOn ended start unread' a (done ++ read_line LINE_BYTES ended bytes ∷ [])
lines_on start unread b bytes unread' a ended done g (inl n) =
    let front : List ℕ = g.0 ++ (bytes ++ 10 ∷ []) in
    let line : TextLine = closed_line LINE_BYTES bytes in
    let whole : start ≡ front ++ (unread' ++ a) =
    g.1 ∙ ap (λ (x : List ℕ). g.0 ++ x) (n.1.1 ∙ sym (append_assoc bytes (10 ∷ []) (unread' ++ a))) ∙ sym (append_assoc g.0 (bytes ++ 10 ∷ []) (unread' ++ a)) in
    let later : (e : Bool) (x : List ℕ) → lines LINE_BYTES e (front ++ x) ≡ (done ++ line ∷ []) ++ lines LINE_BYTES e x =
    λ e x. ap (lines LINE_BYTES e) (append_assoc g.0 (bytes ++ 10 ∷ []) x)
    ∙ g.2 e ((bytes ++ 10 ∷ []) ++ x)
    ∙ ap (λ (ls : List TextLine). done ++ ls) (lines-ClosedLine LINE_BYTES e ((bytes ++ 10 ∷ []) ++ x) bytes x (n.1.0, append_assoc bytes (10 ∷ []) x))
    ∙ sym (append_assoc done (line ∷ []) (lines LINE_BYTES e x)) in
    subst (λ (e : Bool). LinesGoOn e start unread' a (done ++ read_line LINE_BYTES e bytes ∷ [])) (sym n.0) (front, whole, later)
lines_on start unread b bytes unread' a ended done g (inr n) =
    let all : lines LINE_BYTES true start ≡ done ++ line_of LINE_BYTES bytes ∷ [] =
    ap (lines LINE_BYTES true) g.1 ∙ g.2 true (unread ++ b) ∙ ap (λ (ls : List TextLine). done ++ ls) (lines-OpenLine LINE_BYTES (unread ++ b) bytes (unread' ++ a) n.1) in
    let nothing : a ≡ [] = none_after unread' a n.1.3 in
    subst (λ (e : Bool). LinesGoOn e start unread' a (done ++ read_line LINE_BYTES e bytes ∷ [])) (sym n.0) (nothing, all)
  where
    none_after : (x y : List ℕ) → x ++ y ≡ [] → y ≡ []
    none_after [] y e = e
    none_after (b ∷ x) y e = absurd cc

-- the same, where it is told
pub lines_on_told : (start before after : Option (List ℕ)) (unread unread' : List ℕ) (line : TextLine) (ended : Bool) (done : List TextLine)
    → WhereTold start before (λ b a. LinesGoOn false b unread a done)
    → WhereTold before after (λ b a. IsFirstLine line ended (unread ++ b) (unread' ++ a))
    → WhereTold start after (λ b a. LinesGoOn ended b unread' a (done ++ line ∷ []))
lines_on_told None None None unread unread' line ended done g n = tt
lines_on_told (Some s) (Some b) (Some a) unread unread' line ended done g n =
    subst (λ (x : TextLine). LinesGoOn ended s unread' a (done ++ x ∷ [])) (sym n.1) (lines_on s unread b n.0 unread' a ended done g n.2)
lines_on_told None None (Some a) unread unread' line ended done g n = n
lines_on_told None (Some b) after unread unread' line ended done g n = absurd g
lines_on_told (Some s) None after unread unread' line ended done g n = absurd g
lines_on_told (Some s) (Some b) None unread unread' line ended done g n = absurd n

-- at the end all lines were answered
pub read_to_end : (start before after : Option (List ℕ)) (ended : Bool) (unread : List ℕ) (done : List TextLine)
    → WhereTold start before (λ b a. LinesGoOn ended b unread a done) → WhereTold before after (λ b a. EndsAt ended unread b a) → ReadToEnd start after done
read_to_end None None None ended unread done g e = tt
read_to_end None None (Some a) ended unread done g e = e
read_to_end None (Some b) after ended unread done g e = absurd g
read_to_end (Some s) None after ended unread done g e = absurd g
read_to_end (Some s) (Some b) None ended unread done g e = absurd e
read_to_end (Some s) (Some b) (Some a) true unread done g e = (e ∙ g.0, sym g.1)
read_to_end (Some s) (Some b) (Some a) false unread done g e =
    (e.1, sym (ap (lines LINE_BYTES true) g.1 ∙ g.2 true (unread ++ b) ∙ ap (λ (x : List ℕ). done ++ lines LINE_BYTES true x) e.0 ∙ append-nil done))

-- where the input broke off the whole lines were answered
pub read_in_part : (start before after : Option (List ℕ)) (unread : List ℕ) (done : List TextLine)
    → WhereTold start before (λ b a. LinesGoOn false b unread a done) → WhereTold before after (λ b a. BreaksOff (unread ++ b) a) → ReadInPart start after done
read_in_part None None None unread done g e = tt
read_in_part None None (Some a) unread done g e = e
read_in_part None (Some b) after unread done g e = absurd g
read_in_part (Some s) None after unread done g e = absurd g
read_in_part (Some s) (Some b) None unread done g e = absurd e
read_in_part (Some s) (Some b) (Some a) unread done g e = (
  g.0 ++ e.0,
  g.1 ∙ ap (λ (x : List ℕ). g.0 ++ x) e.2 ∙ sym (append_assoc g.0 e.0 a),
  sym (g.2 false e.0 ∙ ap (λ (ls : List TextLine). done ++ ls) (lines-begun LINE_BYTES e.0 e.1) ∙ append-nil done),
)

-- the answered lines are the first ones of all, and no more was read than them and what the reader keeps
pub first_lines : (start now : Option (List ℕ)) (ended : Bool) (unread : List ℕ) (done : List TextLine) → length unread ≤ read_ahead
    → WhereTold start now (λ b a. LinesGoOn ended b unread a done) → ReadFirstLines start now done
first_lines None None ended unread done few g = tt
first_lines None (Some a) ended unread done few g = g
first_lines (Some s) None ended unread done few g = g
first_lines (Some s) (Some a) true unread done few g = record {
  front = s;
  ahead = [];
  parts = sym (ap (λ (x : List ℕ). s ++ x) g.0 ∙ append-nil s);
  few = omega arith;
  are_lines = sym g.1;
  first = ([], g.1 ∙ sym (append-nil done));
}
first_lines (Some s) (Some a) false unread done few g = record {
  front = g.0;
  ahead = unread;
  parts = g.1;
  few = few;
  are_lines = sym (ap (lines LINE_BYTES true) (sym (append-nil g.0)) ∙ g.2 true [] ∙ append-nil done);
  first = (lines LINE_BYTES true (unread ++ a), ap (lines LINE_BYTES true) g.1 ∙ g.2 true (unread ++ a));
}

pub rises-along : (a b c t u v : ℕ) → RisesBy t a b → RisesBy u b c → t + u ≡ v → RisesBy v a c
rises-along a b c t u v p q e = omega arith

-- what the reader took since the first line is what the source gave since
pub within : (r r' a b c : ℕ) → RisesBy r a b → TakesAlike r r' b c → r' ≤ SOURCE_BYTES → TakesWithin a c
within r r' a b c p q bound = (r', bound, rises-along a b c r q.0 r' p q.2 q.1)

pub spent : (a c r : ℕ) → RisesBy r a c → r ≡ SOURCE_BYTES → HasRisenBy SOURCE_BYTES a c
spent a c r p e = omega arith

-- nothing was read yet
pub at_first : (start : Option (List ℕ)) (unread : List ℕ) → unread ≡ [] → WhereTold start start (λ b a. LinesGoOn false b unread a [])
at_first None unread e = tt
at_first (Some b) unread e = ([], ap (λ (x : List ℕ). x ++ b) (sym e), λ ended x. refl)
