-- The second pass over one line of a module, beside the second pass over the same line in the one source.
use Rattle.std.proofs.Common.{◌≡◌, ℕ, ◌+◌, ◌≤◌, ℤ, pos, Bool, true, List, [], ◌∷◌, ◌++◌, Option, Some, None, is_some, Result, Ok}
use Rattle.std.proofs.Common.{refl, sym, ap, ◌∙◌, subst, arith, append_assoc}
use Rattle.std.specs.Prelude.{option_map}
use Rattle.std.proofs.lemmas.List.{length-map}
use Rattle.asm_text.specs.declared.answers.Token.{Token}
use Rattle.f8_asm.specs.Formulas.{formulas, formula_value}
use Rattle.f8_asm.specs.Grammar.{column_of}
use Rattle.f8_asm.specs.Image.{everywhere}
use Rattle.f8_asm.specs.Judging.{operand_value}
use Rattle.f8_asm.specs.Marks.{marks_with, is_free}
use Rattle.f8_asm.specs.Names.{value_of}
use Rattle.f8_asm.specs.ParsedLines.{parsed}
use Rattle.f8_asm.specs.PassTwo.{Layout as SourceLayout, with_label as source_label, with_placed as source_with, layout_filled}
use Rattle.f8_asm.specs.PassTwo.{layout_after, is_inside, fits}
use Rattle.f8_asm.specs.Statements.{statement, statement_size, statement_valued, operand_valued, label_of, behind_label, effect_of}
use Rattle.f8_asm.specs.declared.faults.LineFault.{LineFault}
use Rattle.f8_asm.specs.declared.formulas.Step.{Step}
use Rattle.f8_asm.specs.declared.line.ParsedLine.{ParsedLine}
use Rattle.f8_asm.specs.declared.operands.Effect.TheVariants.{Names, Fills}
use Rattle.f8_asm.specs.declared.operands.Operand.{Operand}
use Rattle.f8_asm.specs.declared.operands.Statement.{Statement}
use Rattle.f8_asm.specs.declared.operands.Statement.TheVariants.{One, Items}
use Rattle.f8_asm.specs.declared.values.Outcome.{Outcome}
use Rattle.f8_asm.specs.declared.values.Outcome.TheVariants as outcome
use Rattle.f8_asm.specs.declared.words.Single.TheVariants as single
use Rattle.f8_asm.proofs.Alike.{read-ok}
use Rattle.f8_asm.proofs.FormulaValues.{statement_with_values}
use Rattle.f8_link.specs.Answers.{in_line_to}
use Rattle.f8_link.specs.Linking.{named_value}
use Rattle.f8_link.specs.OneSource.{PlacedSource, renamed_values, source_placed}
use Rattle.f8_link.specs.SecondPass.{Layout, with_label, moved_by, with_placed, filled, statement_settled, settle, place}
use Rattle.f8_link.specs.declared.lines.LineTask.TheVariants as line
use Rattle.f8_link.specs.declared.values.Named.{Named}
use Rattle.f8_link.specs.declared.values.Named.TheVariants.{Constant, Offset}
use Rattle.f8_link.specs.Directives.{stray}
use Rattle.f8_link.proofs.EquGoes.{OwnNamesGo, EquGoes}
use Rattle.f8_link.proofs.LinePlaced.{line_from, in_line-read, when_read, Named_constant, equ_read, label_stays}
use Rattle.f8_link.proofs.MarkRuns.{free_behind, marks_joined, inside_part}
use Rattle.f8_link.proofs.ModuleLines.{seen_after, NewLabel}
use Rattle.f8_link.proofs.NoOrigin.{StandsStill, stands_still}
use Rattle.f8_link.proofs.PlacedNames.{placed_names, KeepsApart, given, placed_append, FreshLabel, NamesStand, names_more, names_go}
use Rattle.f8_link.proofs.PlacedNames.{label_fresh}

-- ---- where a module stands

-- Where a module begins, how the one source spells its names, the names and marks before it, and how many bytes it has; they lie inside
-- and where nothing is marked.
pub record Site : Type 0 where
  pub first : ℕ
  pub rename : List ℕ → List ℕ
  pub before : List (List ℕ × ℤ)
  pub marks : List Bool
  pub total : ℕ
  pub apart : KeepsApart rename
  pub inside : is_inside everywhere first total ≡ true
  pub free : is_free marks first total ≡ true
  pub equ : EquGoes first rename

-- the layout of the module and that of the one source after the same lines
pub record Together (site : Site) (m : Layout) (s : SourceLayout PlacedSource) : Type 0 where
  pub here : s.here ≡ site.first + m.here
  pub names : s.names ≡ site.before ++ placed_names site.rename site.first m.names
  pub filled : s.filled ≡ marks_with site.marks site.first m.here

-- what of the module's names is known after lines with these labels
abbrev pub Stands : Site → List (List ℕ) → Layout → Type 0
Stands site seen m = NamesStand site.rename site.before seen m.names

-- ---- a label

source_label_here : (label : Option (List ℕ)) (v : ℤ) (s : SourceLayout PlacedSource) → (source_label label v s).here ≡ s.here
source_label_here None v s = refl
source_label_here (Some x) v s = refl

source_label_placed : (label : Option (List ℕ)) (v : ℤ) (s : SourceLayout PlacedSource) → (source_label label v s).placed ≡ s.placed
source_label_placed None v s = refl
source_label_placed (Some x) v s = refl

module _ (site : Site) {seen : List (List ℕ)} {m : Layout} {s : SourceLayout PlacedSource} where
  label_together : (label : Option (List ℕ)) (v : Named) (w : ℤ) → Together site m s → Stands site seen m → NewLabel seen label
      → FreshLabel site.rename site.before label → w ≡ named_value site.first v
      → Together site (with_label label v m) (source_label (option_map site.rename label) w s)
  label_together None v w so stand new fresh value = so
  label_together (Some x) v w so stand new fresh value =
      let own = given m.names x v (stand.unseen x new) in
      let free : value_of s.names (site.rename x) ≡ None = rw so.names (label_fresh stand site.apart site.first x new fresh) in
      let theirs = given s.names (site.rename x) w free in
      let ours = placed_names site.rename site.first m.names in
      record {
        here = so.here;
        names =
            theirs ∙ ap (λ es. es ++ (site.rename x, w) ∷ []) so.names ∙ append_assoc site.before ours ((site.rename x, w) ∷ [])
            ∙ ap (λ u. site.before ++ (ours ++ (site.rename x, u) ∷ [])) value
            ∙ ap (λ es. site.before ++ es) (sym (placed_append site.rename site.first m.names ((x, v) ∷ [])))
            ∙ ap (λ es. site.before ++ placed_names site.rename site.first es) (sym own);
        filled = so.filled;
      }

label_stands : (site : Site) (seen : List (List ℕ)) (m : Layout) (label : Option (List ℕ)) (v : Named) → Stands site seen m → NewLabel seen label
    → FreshLabel site.rename site.before label → Stands site (seen_after seen label) (with_label label v m)
label_stands site seen m None v stand new fresh = stand
label_stands site seen m (Some x) v stand new fresh = rw (given m.names x v (stand.unseen x new)) (names_more stand (Some x) v fresh)

-- ---- a line

-- the source's layout after a line of the module
pub record Goes (site : Site) (seen : List (List ℕ)) (label : Option (List ℕ)) (t : Layout) (s : SourceLayout PlacedSource)
    (settled : Result (SourceLayout PlacedSource) LineFault) : Type 0 where
  pub u : SourceLayout PlacedSource
  pub is : settled ≡ Ok u
  pub together : Together site t u
  pub placed : u.placed ≡ s.placed
  pub stands : Stands site (seen_after seen label) t

module _ (site : Site) {seen : List (List ℕ)} {m : Layout} {s : SourceLayout PlacedSource} (so : Together site m s) (stand : Stands site seen m)
    (label : Option (List ℕ)) (new : NewLabel seen label) (fresh : FreshLabel site.rename site.before label) (column : Option ℕ) where
  -- bytes of the module go where the source's layout stands
  room_for : (size : ℕ) → m.here + size ≤ site.total → fits everywhere column size s ≡ Ok tt
  room_for size least =
      let inside : is_inside everywhere s.here size ≡ true = rw so.here (inside_part site.first site.total m.here size least site.inside) in
      let free : is_free s.filled s.here size ≡ true =
      rw (so.filled, so.here) (free_behind site.marks site.first m.here size site.total least site.free) in
      rw (inside, free) refl

  fills_go : (at : Option ℕ) (size : ℕ) (t : Layout) → filled label at size m ≡ Ok t → t.here ≤ site.total
      → Goes site seen label t s (layout_after everywhere (option_map site.rename label) column s (Fills size))
  fills_go at size t h least =
      let both = when_read (is_inside everywhere m.here size) _ (moved_by size (with_label label (Offset m.here) m)) t h in
      let stays = label_stays label (Offset m.here) m in
      let grown : t.here ≡ m.here + size = ap (λ (l : Layout). l.here) (sym both.1) ∙ ap (λ n. n + size) stays in
      let there : SourceLayout PlacedSource = source_label (option_map site.rename label) (pos s.here) s in
      let labelled = label_together site label (Offset m.here) (pos s.here) so stand new fresh (ap pos so.here) in
      let here : there.here ≡ site.first + m.here = labelled.here ∙ ap (λ n. site.first + n) stays in
      let marked : there.filled ≡ marks_with site.marks site.first m.here =
      labelled.filled ∙ ap (λ n. marks_with site.marks site.first n) stays in
      let room = room_for size (omega (arith, grown, least)) in
      subst (λ (l : Layout). Goes site seen label l s (layout_after everywhere (option_map site.rename label) column s (Fills size))) both.1
      (record {
        u = layout_filled size there;
        is = rw room refl;
        together = record {
          here = omega (arith, here, stays);
          names = labelled.names;
          filled = rw (marked, here, stays) (marks_joined site.marks site.first m.here size);
        };
        placed = source_label_placed (option_map site.rename label) (pos s.here) s;
        stands = label_stands site seen m label (Offset m.here) stand new fresh;
      })

  names_go_on : {imports : List (List ℕ × ℕ)} {o : Operand (List Step)} (t : Layout) (p : Operand Outcome) (did : Named_constant imports label m t o)
      → operand_value p ≡ Ok did.v → Goes site seen label t s (layout_after everywhere (option_map site.rename label) column s (Names p))
  names_go_on t p did value =
      subst (λ (l : Layout). Goes site seen label l s (layout_after everywhere (option_map site.rename label) column s (Names p))) did.after
      (record {
        u = source_label (option_map site.rename label) did.v s;
        is = rw value refl;
        together = label_together site label (Constant did.v) did.v so stand new fresh refl;
        placed = source_label_placed (option_map site.rename label) did.v s;
        stands = label_stands site seen m label (Constant did.v) stand new fresh;
      })

  own_names : OwnNamesGo site.first site.rename m.names s.names
  own_names = record { is = λ x v found. rw so.names (names_go stand site.apart site.first x v found) }

  -- the values of the source where its layout stands
  abbrev source_value : List Step → Outcome
  source_value ss = formula_value outcome.OutOfRange (renamed_values site.rename s.names s.here) ss

  statement_goes : (imports : List (List ℕ × ℕ)) (at : Option ℕ) (labelled : Bool) (ts : List Token) (t : Layout) (st : Statement (List Step))
      → StandsStill st → statement formulas labelled ts ≡ Ok st → statement_settled imports label at m st ≡ Ok t → t.here ≤ site.total
      → Goes site seen label t s (layout_after everywhere (option_map site.rename label) column s (effect_of (statement_valued source_value st)))
  statement_goes imports at labelled ts t (One single.Equ o) still read h least =
      let did = equ_read imports label m t o h in
      let value = site.equ.is m.names m.here s.names own_names labelled ts o did.v read did.is in
      names_go_on t (operand_valued source_value o) did (rw so.here value)
  statement_goes imports at labelled ts t (One single.Org o) still read h least = absurd still
  statement_goes imports at labelled ts t (Items size os) still read h least =
      rw (length-map os (operand_valued source_value)) (fills_go at (statement_size (Items size os)) t h least)
  statement_goes imports at labelled ts t other still read h least = fills_go at (statement_size other) t h least

-- ---- a line that is placed

pub record LineGoes (site : Site) (seen : List (List ℕ)) (ts : List Token) (number : ℕ) (m t : Layout) (s : SourceLayout PlacedSource) : Type 0 where
  pub u : SourceLayout PlacedSource
  pub is : source_placed s (record { rename = site.rename; number = number; tokens = ts }) ≡ Ok u
  pub together : Together site t u
  pub placed : u.placed ≡ s.placed ++ record {
    address = site.first + m.here;
    line = record { rename = site.rename; number = number; tokens = ts };
  } ∷ []
  pub stands : Stands site (seen_after seen (label_of ts)) t

pub line_goes : (site : Site) (seen : List (List ℕ)) (imports : List (List ℕ × ℕ)) (l : ParsedLine) (ts : List Token) (number : ℕ) (m t : Layout)
    (s : SourceLayout PlacedSource) → Together site m s → Stands site seen m → parsed l.number ts ≡ Ok l → stray ts ≡ None
    → NewLabel seen (label_of ts) → FreshLabel site.rename site.before (label_of ts) → place imports m (line.Statement l) ≡ Ok t → t.here ≤ site.total
    → LineGoes site seen ts number m t s
unfolding place settle source_placed
line_goes site seen imports l ts number m t s so stand is plain new fresh h least =
    read-ok (LineGoes site seen ts number m t s) (in_line_to l.number l.end (settle imports m l)) _ t h (λ v at_v e.
    let from = line_from l.number ts l is in
    let settled = rw (from.label, from.statement_is) at (in_line-read l.number l.end (settle imports m l) v at_v) in
    let placed : with_placed (record { offset = m.here; line = line.Statement l }) v ≡ t = cc e in
    let here : v.here ≡ t.here = ap (λ (k : Layout). k.here) placed in
    let labelled : Bool = is_some (label_of ts) in
    let column : Option ℕ = column_of (behind_label ts) in
    let still = stands_still formulas labelled ts from.st plain from.read in
    let did = statement_goes site so stand (label_of ts) new fresh column imports l.column labelled (behind_label ts) v from.st still from.read settled
    (rw here least) in
    let q : PlacedSource = record { address = s.here; line = record { rename = site.rename; number = number; tokens = ts } } in
    let valued = statement_with_values outcome.OutOfRange (renamed_values site.rename s.names s.here) labelled (behind_label ts) from.st from.read in
    subst (λ (k : Layout). LineGoes site seen ts number m k s) placed
    (record {
      u = source_with q did.u;
      is = rw (valued, did.is) refl;
      together = record { here = did.together.here; names = did.together.names; filled = did.together.filled };
      placed = rw (did.placed, so.here) refl;
      stands = did.stands;
    }))
