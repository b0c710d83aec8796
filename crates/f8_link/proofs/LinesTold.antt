-- A module's first pass, line by line: its lines beside the tokens of its statements, its labels, and what it knows at the end.
use Rattle.std.proofs.Common.{◌≡◌, ℕ, ◌+◌, ℤ, pos, Bool, true, false, cond, List, [], ◌∷◌, ◌++◌, map, drop, Option, Some, None, is_some}
use Rattle.std.proofs.Common.{Result, Ok, Err, refl, sym, ap, ◌∙◌, subst, append_assoc, append-nil, filter}
use Rattle.std.specs.Prelude.{if◌then◌else◌}
use Rattle.asm_text.specs.declared.answers.Token.{Token}
use Rattle.f8_asm.specs.Names.{value_of, with_name}
use Rattle.f8_asm.specs.ParsedLines.{parsed, line_of, names_after}
use Rattle.f8_asm.specs.PassOne.{in_line, line_tokens}
use Rattle.f8_asm.specs.Formulas.{formulas}
use Rattle.f8_asm.specs.Statements.{statement, behind_label, comma, label_of}
use Rattle.f8_asm.specs.Steps.{steps}
use Rattle.f8_asm.specs.declared.faults.LineFault.{LineFault}
use Rattle.f8_asm.specs.declared.formulas.Step.{Step}
use Rattle.f8_asm.specs.declared.line.ParsedLine.{ParsedLine}
use Rattle.f8_asm.specs.declared.operands.Statement.{Statement}
use Rattle.f8_asm.proofs.Alike.{read-ok}
use Rattle.f8_asm.proofs.ImageRooms.{in_line-ok}
use Rattle.f8_link.specs.declared.directives.Directive.{Directive}
use Rattle.f8_link.specs.declared.directives.Directive.TheVariants.{Export, Import}
use Rattle.f8_link.specs.declared.lines.LineTask.{LineTask}
use Rattle.f8_link.specs.declared.lines.LineTask.TheVariants as line
use Rattle.f8_link.specs.Directives.{directive_of, name_in, names_taken, stray, unless_stray}
use Rattle.f8_link.specs.FirstPass.{Reading, no_reading, name_taken, statement_taken, line_taken, tokens_taken, counted, with_export}
use Rattle.f8_link.specs.FirstPass.{with_import, with_statement}
use Rattle.f8_link.specs.FirstPass.{read_line, read_lines}
use Rattle.f8_link.specs.OneSource.{tokens_in, is_statement, statement_lines}
use Rattle.text_lines.specs.Lines.{lines}
use Rattle.f8_link.proofs.ModuleLines.{LinesPair, no_line, export_line, statement_line, seen_after, NewLabel, LabelsNew}
use Rattle.f8_link.proofs.NameFacts.{given}
use Rattle.f8_link.proofs.FirstLines.{same_tokens, Known, nothing_known, not_imported, not_seen, label_more, import_more}

-- ---- a line is made of the statement of its tokens

pub record ParsedFrom (number : ℕ) (ts : List Token) (l : ParsedLine) : Type 0 where
  pub st : Statement (List Step)
  pub at_st : statement formulas (is_some (label_of ts)) (behind_label ts) ≡ Ok st
  pub is : line_of number ts st ≡ l

pub parsed_from : (number : ℕ) (ts : List Token) (l : ParsedLine) → parsed number ts ≡ Ok l → ParsedFrom number ts l
unfolding parsed
parsed_from number ts l h =
    read-ok (ParsedFrom number ts l) (statement formulas (is_some (label_of ts)) (behind_label ts)) _ l h
    (λ st at_st e. record { st = st; at_st = at_st; is = cc e })

pub parsed_number : (number : ℕ) (ts : List Token) (l : ParsedLine) → parsed number ts ≡ Ok l → number ≡ l.number
parsed_number number ts l h = ap (λ (k : ParsedLine). k.number) (parsed_from number ts l h).is

pub parsed_label : (number : ℕ) (ts : List Token) (l : ParsedLine) → parsed number ts ≡ Ok l → label_of ts ≡ l.label
parsed_label number ts l h = ap (λ (k : ParsedLine). k.label) (parsed_from number ts l h).is

-- ---- lines one behind the other

-- the names behind these lines
abbrev pub seen_behind : List (List ℕ) → List (List Token) → List (List ℕ)
seen_behind seen [] = seen
seen_behind seen (ts ∷ tss) = seen_behind (seen_after seen (label_of ts)) tss

pub seen_behind-append : (seen : List (List ℕ)) (tss uss : List (List Token)) → seen_behind seen (tss ++ uss) ≡ seen_behind (seen_behind seen tss) uss
seen_behind-append seen [] uss = refl
seen_behind-append seen (ts ∷ tss) uss = seen_behind-append (seen_after seen (label_of ts)) tss uss

pub new_behind : (seen : List (List ℕ)) (tss uss : List (List Token)) → LabelsNew seen tss → LabelsNew (seen_behind seen tss) uss
    → LabelsNew seen (tss ++ uss)
new_behind seen [] uss front rest = rest
new_behind seen (ts ∷ tss) uss front rest = (front.0, new_behind (seen_after seen (label_of ts)) tss uss front.1 rest)

pub pair_behind : {ls ks : List LineTask} {tss uss : List (List Token)} → LinesPair ls tss → LinesPair ks uss → LinesPair (ls ++ ks) (tss ++ uss)
pair_behind no_line rest = rest
pair_behind (export_line front) rest = export_line (pair_behind front rest)
pair_behind (statement_line is front) rest = statement_line is (pair_behind front rest)

-- no line has a word that only directives may have
abbrev pub NoStray : List (List Token) → Type 0
NoStray [] = Unit {0}
NoStray (ts ∷ tss) = (stray ts ≡ None) × NoStray tss

plain_behind : (tss uss : List (List Token)) → NoStray tss → NoStray uss → NoStray (tss ++ uss)
plain_behind [] uss front rest = rest
plain_behind (ts ∷ tss) uss front rest = (front.0, plain_behind tss uss front.1 rest)

-- what lines of these tokens did
pub record Told (seen : List (List ℕ)) (s t : Reading) (tss : List (List Token)) : Type 0 where
  pub lines : List LineTask
  pub behind : t.lines ≡ s.lines ++ lines
  pub pair : LinesPair lines tss
  pub new : LabelsNew seen tss
  pub plain : NoStray tss
  pub known : Known (seen_behind seen tss) t

told_nothing : {seen : List (List ℕ)} {s : Reading} → Known seen s → Told seen s s []
told_nothing {seen} {s} so = record { lines = []; behind = sym (append-nil s.lines); pair = no_line; new = tt; plain = tt; known = so }

told_behind : {seen : List (List ℕ)} {s t u : Reading} {tss uss : List (List Token)} → Told seen s t tss → Told (seen_behind seen tss) t u uss
    → Told seen s u (tss ++ uss)
told_behind {seen} {s} {t} {u} {tss} {uss} front rest = record {
  lines = front.lines ++ rest.lines;
  behind = rest.behind ∙ ap (λ q. q ++ rest.lines) front.behind ∙ append_assoc s.lines front.lines rest.lines;
  pair = pair_behind front.pair rest.pair;
  new = new_behind seen tss uss front.new rest.new;
  plain = plain_behind tss uss front.plain rest.plain;
  known = rw (seen_behind-append seen tss uss) rest.known;
}

-- ---- a line of names

module _ {S : Type 0} (P : S → Type 0) (take : S → ℕ → List ℕ → Result S LineFault)
    (each : (s t : S) (column : ℕ) (name : List ℕ) → P s → take s column name ≡ Ok t → P t) where
  -- what each name keeps, all names keep
  pub names_keep : (ts : List Token) (s t : S) → P s → names_taken take s ts ≡ Ok t → P t
  unfolding names_taken
  names_keep [] s t so h = cc h
  names_keep (a ∷ []) s t so h = read-ok (P t) (name_in a.kind a.column) _ t h (λ name at_name h. each s t a.column name so h)
  names_keep (a ∷ c ∷ ts) s t so h =
      read-ok (P t) (name_in a.kind a.column) _ t h (λ name at_name h.
      read-ok (P t) (take s a.column name) _ t h (λ u at_u h.
      read-ok (P t) (comma (c ∷ ts)) _ t h (λ rest at_rest h. names_keep ts u t (each s u a.column name so at_u) h)))

none_some : (o : Option ℤ) (f : LineFault) (r : Result Reading LineFault) (t : Reading) → (if is_some o then Err f else r) ≡ Ok t → (o ≡ None) × (r ≡ Ok t)
none_some None f r t h = (refl, h)
none_some (Some v) f r t h = cc h

module _ {seen : List (List ℕ)} {s : Reading} where
  kept_export : (number column : ℕ) (name : List ℕ) (t u : Reading) → Told seen s t [] → name_taken Export number t column name ≡ Ok u → Told seen s u []
  kept_export number column name t u so h =
      let is : with_export number column name t ≡ u = cc h in
      subst (λ (r : Reading). Told seen s r []) is (record {
        lines = so.lines ++ line.Export number column name ∷ [];
        behind = ap (λ q. q ++ line.Export number column name ∷ []) so.behind ∙ append_assoc s.lines so.lines (line.Export number column name ∷ []);
        pair = pair_behind so.pair (export_line no_line);
        new = tt;
        plain = tt;
        known = record { label = so.known.label; imported = so.known.imported; apart = so.known.apart; numbered = so.known.numbered };
      })

  kept_import : (number column : ℕ) (name : List ℕ) (t u : Reading) → Told seen s t [] → name_taken Import number t column name ≡ Ok u → Told seen s u []
  kept_import number column name t u so h =
      let both = none_some (value_of t.known name) _ _ u h in
      let is : with_import name t ≡ u = cc both.1 in
      subst (λ (r : Reading). Told seen s r []) is (record {
        lines = so.lines;
        behind = so.behind;
        pair = so.pair;
        new = tt;
        plain = tt;
        known = import_more so.known name both.0 (with_import name t) (given t.known name (pos 0) both.0)
            (given t.imports name _ (not_imported so.known name both.0));
      })

  kept : (d : Directive) (number : ℕ) (t u : Reading) (column : ℕ) (name : List ℕ) → Told seen s t [] → name_taken d number t column name ≡ Ok u
      → Told seen s u []
  kept Export number t u column name so h = kept_export number column name t u so h
  kept Import number t u column name so h = kept_import number column name t u so h

-- ---- a line of a statement

strayed : {A : Type 0} (at : Option ℕ) (r : Result A LineFault) (x : A) → unless_stray at r ≡ Ok x → (at ≡ None) × (r ≡ Ok x)
strayed None (Ok y) x h = (refl, h)
strayed (Some column) (Ok y) x h = cc h
strayed None (Err f) x h = cc h
strayed (Some column) (Err f) x h = cc h

module _ {seen : List (List ℕ)} {s : Reading} (so : Known seen s) where
  -- a label that is new
  record Labelled (known : List (List ℕ × ℤ)) (label : Option (List ℕ)) : Type 0 where
    new : NewLabel seen label
    now : (t : Reading) → t.known ≡ known → t.imports ≡ s.imports → Known (seen_after seen label) t

  new_label : (o : Option ℤ) (name : List ℕ) (f : LineFault) (known : List (List ℕ × ℤ)) → value_of s.known name ≡ o
      → (if is_some o then Err f else Ok (with_name s.known name (pos 0))) ≡ Ok known → Labelled known (Some name)
  new_label None name f known none h =
      let is : with_name s.known name (pos 0) ≡ known = cc h in
      record {
        new = not_seen so name none;
        now = λ t at_known at_imports. label_more so name none t (at_known ∙ sym is ∙ given s.known name (pos 0) none) at_imports;
      }
  new_label (Some v) name f known some h = cc h

  labelled : (ts : List Token) (label : Option (List ℕ)) (known : List (List ℕ × ℤ)) → names_after s.known ts label ≡ Ok known → Labelled known label
  labelled ts None known h =
      let same : s.known ≡ known = cc h in
      record {
        new = tt;
        now = λ t at_known at_imports. record {
          label = λ x h. rw (at_known, ← same) (so.label x h);
          imported = λ x h. rw (at_known, ← same) (so.imported x (rw at_imports at h));
          apart = λ x h. rw at_imports (so.apart x h);
          numbered = λ x i h. rw at_imports (so.numbered x i (rw at_imports at h));
        };
      }
  labelled ts (Some name) known h = new_label (value_of s.known name) name _ known refl h

  statement_told : (number : ℕ) (ts : List Token) (t : Reading) → statement_taken number s ts ≡ Ok t → Told seen s t (ts ∷ [])
  statement_told number ts t h =
      read-ok (Told seen s t (ts ∷ [])) (names_after s.known ts (label_of ts)) _ t h (λ known at_known h.
      read-ok (Told seen s t (ts ∷ [])) (unless_stray (stray ts) (parsed number ts)) _ t h (λ l at_l h.
      let plain = strayed (stray ts) (parsed number ts) l at_l in
      let read : parsed number ts ≡ Ok l = plain.1 in
      let own : parsed l.number ts ≡ Ok l = rw (parsed_number number ts l read) at read in
      let is : with_statement l known s ≡ t = cc h in
      let label = labelled ts (label_of ts) known at_known in
      subst (λ (r : Reading). Told seen s r (ts ∷ [])) is (record {
        lines = line.Statement l ∷ [];
        behind = refl;
        pair = statement_line own no_line;
        new = (label.new, tt);
        plain = (plain.0, tt);
        known = label.now (with_statement l known s) refl refl;
      })))

  -- ---- any line

  abbrev kept_tokens : Option Directive → List Token → List (List Token)
  kept_tokens (Some d) ts = []
  kept_tokens None ts = ts ∷ []

  line_told : (number : ℕ) (ts : List Token) (d : Option Directive) (t : Reading) → line_taken number s ts d ≡ Ok t → Told seen s t (kept_tokens d ts)
  line_told number ts (Some d) t h =
      names_keep (λ (u : Reading). Told seen s u []) (name_taken d number) (λ t u column name so h. kept d number t u column name so h)
      (drop 1 ts) s t (told_nothing so) h
  line_told number ts None t h = statement_told number ts t h

  counted_told : {tss : List (List Token)} (t : Reading) → Told seen s t tss → Told seen s (counted t) tss
  counted_told t did = record {
    lines = did.lines;
    behind = did.behind;
    pair = did.pair;
    new = did.new;
    plain = did.plain;
    known = record { label = did.known.label; imported = did.known.imported; apart = did.known.apart; numbered = did.known.numbered };
  }

  -- the tokens of the line, if it is a statement's
  abbrev own_tokens : List ℕ → List (List Token)
  own_tokens l = map tokens_in (filter is_statement (l ∷ []))

  own_tokens_are : (l : List ℕ) (ts : List Token) → tokens_in l ≡ ts → own_tokens l ≡ kept_tokens (directive_of ts) ts
  own_tokens_are l ts is = by (directive_of ts) refl
    where
      by : (d : Option Directive) → directive_of ts ≡ d → own_tokens l ≡ kept_tokens d ts
      by (Some d) at_d = rw (is, at_d) refl
      by None at_d = rw (is, at_d) (ap (λ q. q ∷ []) is)

  read_told : (l : List ℕ) (t : Reading) → read_line s l ≡ Ok t → Told seen s t (own_tokens l)
  unfolding read_line tokens_taken
  read_told l t h =
      let number : ℕ = s.count + 1 in
      read-ok (Told seen s t (own_tokens l)) (line_tokens number l) _ t h (λ ts at_ts h.
      read-ok (Told seen s t (own_tokens l)) (in_line number ts (tokens_taken number s ts)) _ t h (λ u at_u h.
      let taken = in_line-ok number ts (tokens_taken number s ts) u at_u in
      let did = line_told number ts (directive_of ts) u taken in
      let is : counted u ≡ t = cc h in
      rw (own_tokens_are l ts (same_tokens number l ts at_ts))
      (subst (λ (r : Reading). Told seen s r (kept_tokens (directive_of ts) ts)) is (counted_told u did))))

-- ---- all lines

tokens_split : (t : Bool) (l : List ℕ) (ls : List (List ℕ))
    → map tokens_in (cond t (l ∷ ls) ls) ≡ map tokens_in (cond t (l ∷ []) []) ++ map tokens_in ls
tokens_split true l ls = refl
tokens_split false l ls = refl

pub lines_told : (ls : List (List ℕ)) (seen : List (List ℕ)) (s t : Reading) → Known seen s → read_lines s ls ≡ Ok t
    → Told seen s t (map tokens_in (filter is_statement ls))
unfolding steps
lines_told [] seen s t so h =
    let same : s ≡ t = cc h in
    subst (λ (r : Reading). Told seen s r []) same (told_nothing so)
lines_told (l ∷ ls) seen s t so h =
    read-ok (Told seen s t (map tokens_in (filter is_statement (l ∷ ls)))) (read_line s l) _ t h (λ u at_u h.
    let front = read_told so l u at_u in
    let rest = lines_told ls (seen_behind seen (map tokens_in (filter is_statement (l ∷ [])))) u t front.known h in
    rw (tokens_split (is_statement l) l (filter is_statement ls)) (told_behind front rest))

-- a module's text
pub first_pass_told : (text : List ℕ) (read : Reading) → read_lines no_reading (lines text) ≡ Ok read
    → Told [] no_reading read (map tokens_in (statement_lines text))
first_pass_told text read h = lines_told (lines text) [] no_reading read nothing_known h

pub first_pass_pair : (text : List ℕ) (read : Reading) → read_lines no_reading (lines text) ≡ Ok read
    → LinesPair read.lines (map tokens_in (statement_lines text))
unfolding no_reading
first_pass_pair text read h = let told = first_pass_told text read h in rw told.behind told.pair
