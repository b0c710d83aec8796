-- The second pass over the lines of a module, beside the second pass over the same lines in the one source.
use Rattle.std.proofs.Common.{◌≡◌, ℕ, ◌+◌, ◌≤◌, List, [], ◌∷◌, ◌++◌, Some, None, Ok}
use Rattle.std.proofs.Common.{refl, sym, ap, ◌∙◌, subst, arith, append_assoc, append-nil}
use Rattle.asm_text.specs.declared.answers.Token.{Token}
use Rattle.f8_asm.specs.Marks.{marks_with}
use Rattle.f8_asm.specs.Names.{value_of}
use Rattle.f8_asm.specs.ParsedLines.{parsed}
use Rattle.f8_asm.specs.PassTwo.{Layout as SourceLayout}
use Rattle.f8_asm.specs.Statements.{statement_size, label_of}
use Rattle.f8_asm.specs.Steps.{steps}
use Rattle.f8_asm.specs.declared.line.ParsedLine.{ParsedLine}
use Rattle.f8_asm.proofs.Alike.{read-ok}
use Rattle.f8_asm.proofs.Steps.{steps_more}
use Rattle.f8_link.specs.Directives.{stray}
use Rattle.f8_link.specs.OneSource.{SourceLine, PlacedSource, source_placed}
use Rattle.f8_link.specs.SecondPass.{Layout, no_layout, with_placed, place, place_lines, line_size}
use Rattle.f8_link.specs.declared.lines.LineTask.{LineTask}
use Rattle.f8_link.specs.declared.lines.LineTask.TheVariants as line
use Rattle.f8_link.specs.declared.lines.PlacedLine.{PlacedLine}
use Rattle.f8_link.specs.declared.values.Named.{Named}
use Rattle.f8_link.proofs.LinePlaced.{Places, line_places}
use Rattle.f8_link.proofs.LineTogether.{Site, Together, Stands, LineGoes, line_goes}
use Rattle.f8_link.proofs.ModuleLines.{LinesPair, no_line, export_line, statement_line, seen_after, LabelsNew}
use Rattle.f8_link.proofs.PlacedNames.{placed_names, LabelsFresh, names_begin}

-- lines of the one source with these tokens; the first has this number
abbrev pub lines_with : (List ℕ → List ℕ) → ℕ → List (List Token) → List SourceLine
lines_with rename number [] = []
lines_with rename number (ts ∷ tss) = (record { rename = rename; number = number; tokens = ts }) ∷ lines_with rename (number + 1) tss

-- no line has one of the words that only directives may have
abbrev pub NoStray : List (List Token) → Type 0
NoStray [] = Unit {0}
NoStray (ts ∷ tss) = (stray ts ≡ None) × NoStray tss

-- Placed lines of a module, each where those before it end, and the lines of its statements placed in the one source; the first of them lies
-- so far from where the module begins.
pub data PlacesPair (first : ℕ) (rename : List ℕ → List ℕ) : ℕ → List PlacedLine → List PlacedSource → Type 0 where
  no_place : {offset : ℕ} → PlacesPair first rename offset [] []
  export_place : {offset number column : ℕ} {name : List ℕ} {ps : List PlacedLine} {qs : List PlacedSource} → PlacesPair first rename offset ps qs
      → PlacesPair first rename offset (record { offset = offset; line = line.Export number column name } ∷ ps) qs
  statement_place : {offset number : ℕ} {l : ParsedLine} {ts : List Token} {ps : List PlacedLine} {qs : List PlacedSource} → parsed l.number ts ≡ Ok l
      → PlacesPair first rename (offset + statement_size l.statement) ps qs
      → PlacesPair first rename offset (record { offset = offset; line = line.Statement l } ∷ ps)
      (record { address = first + offset; line = record { rename = rename; number = number; tokens = ts } } ∷ qs)

-- ---- the module alone

-- the layout goes on, and ends by offset 65,536
pub record Grown (m t : Layout) : Type 0 where
  pub here : m.here ≤ t.here
  pub inside : m.here ≤ 65536 → t.here ≤ 65536

pub lines_grow : (imports : List (List ℕ × ℕ)) (ls : List LineTask) (m t : Layout) → place_lines imports m ls ≡ Ok t → Grown m t
unfolding steps
lines_grow imports [] m t h =
    let same : m ≡ t = cc h in
    subst (λ (u : Layout). Grown m u) same (record { here = omega arith; inside = λ low. low })
lines_grow imports (l ∷ ls) m t h =
    read-ok (Grown m t) (place imports m l) _ t h (λ u at_u h.
    let did = line_places imports l m u at_u in
    let rest = lines_grow imports ls u t h in
    let here : u.here ≡ m.here + line_size l = did.here in
    let on : u.here ≤ t.here = rest.here in
    record { here = omega (arith, here, on); inside = λ low. rest.inside (did.inside low) })

-- a module has at most 65,536 bytes
pub laid_short : (imports : List (List ℕ × ℕ)) (ls : List LineTask) (laid : Layout) → place_lines imports no_layout ls ≡ Ok laid → laid.here ≤ 65536
unfolding no_layout
laid_short imports ls laid h = (lines_grow imports ls no_layout laid h).inside (omega arith)

-- ---- beside the one source

-- what the second pass does with the lines of the one source
pub record LinesGo (site : Site) (number : ℕ) (tss : List (List Token)) (m laid : Layout) (s : SourceLayout PlacedSource) : Type 0 where
  pub u : SourceLayout PlacedSource
  pub is : steps source_placed s (lines_with site.rename number tss) ≡ Ok u
  pub together : Together site laid u
  pub seen : List (List ℕ)
  pub stands : Stands site seen laid
  pub ps : List PlacedLine
  pub qs : List PlacedSource
  pub module_placed : laid.placed ≡ m.placed ++ ps
  pub source_are : u.placed ≡ s.placed ++ qs
  pub pair : PlacesPair site.first site.rename m.here ps qs

module _ (site : Site) (imports : List (List ℕ × ℕ)) (laid : Layout) (least : laid.here ≤ site.total) where
  -- a line that exports a name has no line in the one source
  export_goes : {number : ℕ} {tss : List (List Token)} {s : SourceLayout PlacedSource} (m : Layout) (at column : ℕ) (name : List ℕ)
      → LinesGo site number tss (with_placed (record { offset = m.here; line = line.Export at column name }) m) laid s
      → LinesGo site number tss m laid s
  export_goes m at column name rest =
      let p : PlacedLine = record { offset = m.here; line = line.Export at column name } in
      record {
        u = rest.u;
        is = rest.is;
        together = rest.together;
        seen = rest.seen;
        stands = rest.stands;
        ps = p ∷ rest.ps;
        qs = rest.qs;
        module_placed = rest.module_placed ∙ append_assoc m.placed (p ∷ []) rest.ps;
        source_are = rest.source_are;
        pair = export_place rest.pair;
      }

  -- a statement's line, and those behind it
  statement_goes_on : {seen : List (List ℕ)} {number : ℕ} {ts : List Token} {tss : List (List Token)} {l : ParsedLine} {m t : Layout}
      {s : SourceLayout PlacedSource} → parsed l.number ts ≡ Ok l → Places (line.Statement l) m t → (did : LineGoes site seen ts number m t s)
      → LinesGo site (number + 1) tss t laid did.u → LinesGo site number (ts ∷ tss) m laid s
  statement_goes_on {seen} {number} {ts} {tss} {l} {m} {t} {s} read placed did rest =
      let p : PlacedLine = record { offset = m.here; line = line.Statement l } in
      let source : SourceLine = record { rename = site.rename; number = number; tokens = ts } in
      let q : PlacedSource = record { address = site.first + m.here; line = source } in
      record {
        u = rest.u;
        is = sym (steps_more source_placed s did.u source (lines_with site.rename (number + 1) tss) did.is) ∙ rest.is;
        together = rest.together;
        seen = rest.seen;
        stands = rest.stands;
        ps = p ∷ rest.ps;
        qs = q ∷ rest.qs;
        module_placed = rest.module_placed ∙ ap (λ r. r ++ rest.ps) placed.placed ∙ append_assoc m.placed (p ∷ []) rest.ps;
        source_are = rest.source_are ∙ ap (λ r. r ++ rest.qs) did.placed ∙ append_assoc s.placed (q ∷ []) rest.qs;
        pair = statement_place read (subst (λ n. PlacesPair site.first site.rename n rest.ps rest.qs) placed.here rest.pair);
      }

  lines_go : {ls : List LineTask} {tss : List (List Token)} → LinesPair ls tss → (seen : List (List ℕ)) (number : ℕ) (m : Layout)
      (s : SourceLayout PlacedSource) → LabelsNew seen tss → LabelsFresh site.rename site.before tss → NoStray tss → Together site m s
      → Stands site seen m → place_lines imports m ls ≡ Ok laid → LinesGo site number tss m laid s
  unfolding steps place
  lines_go no_line seen number m s new fresh plain so stand h =
      let same : m ≡ laid = cc h in
      subst (λ (t : Layout). LinesGo site number [] m t s) same (record {
        u = s;
        is = refl;
        together = so;
        seen = seen;
        stands = stand;
        ps = [];
        qs = [];
        module_placed = sym (append-nil m.placed);
        source_are = sym (append-nil s.placed);
        pair = no_place;
      })
  lines_go (export_line {number} {column} {name} {ls} {tss} rest) seen line_number m s new fresh plain so stand h =
      let t : Layout = with_placed (record { offset = m.here; line = line.Export number column name }) m in
      export_goes m number column name (lines_go rest seen line_number t s new fresh plain
      (record { here = so.here; names = so.names; filled = so.filled })
      (record { unseen = stand.unseen; fresh = stand.fresh }) h)
  lines_go (statement_line {l} {ts} {ls} {tss} read rest) seen number m s new fresh plain so stand h =
      read-ok (LinesGo site number (ts ∷ tss) m laid s) (place imports m (line.Statement l)) _ laid h (λ t at_t h.
      let grown : t.here ≤ laid.here = (lines_grow imports ls t laid h).here in
      let did = line_goes site seen imports l ts number m t s so stand read plain.0 new.0 fresh.0 at_t (omega (arith, grown, least)) in
      statement_goes_on read (line_places imports (line.Statement l) m t at_t) did
      (lines_go rest (seen_after seen (label_of ts)) (number + 1) t did.u new.1 fresh.1 plain.1 did.together did.stands h))

-- ---- a module from its first line on

-- what the second pass makes of a module's lines in the one source
pub record ModuleGoes (site : Site) (number : ℕ) (tss : List (List Token)) (laid : Layout) (s : SourceLayout PlacedSource) : Type 0 where
  pub u : SourceLayout PlacedSource
  pub is : steps source_placed s (lines_with site.rename number tss) ≡ Ok u
  pub here : u.here ≡ site.first + laid.here
  pub names : u.names ≡ site.before ++ placed_names site.rename site.first laid.names
  pub filled : u.filled ≡ marks_with site.marks site.first laid.here
  pub own : (x : List ℕ) (v : Named) → value_of laid.names x ≡ Some v → value_of site.before (site.rename x) ≡ None
  pub qs : List PlacedSource
  pub source_are : u.placed ≡ s.placed ++ qs
  pub pair : PlacesPair site.first site.rename 0 laid.placed qs

pub module_goes : (site : Site) (imports : List (List ℕ × ℕ)) (ls : List LineTask) (tss : List (List Token)) (number : ℕ) (laid : Layout)
    (s : SourceLayout PlacedSource) → LinesPair ls tss → LabelsNew [] tss → LabelsFresh site.rename site.before tss → NoStray tss
    → s.here ≡ site.first → s.names ≡ site.before → s.filled ≡ site.marks → place_lines imports no_layout ls ≡ Ok laid → laid.here ≤ site.total
    → ModuleGoes site number tss laid s
unfolding no_layout
module_goes site imports ls tss number laid s pairs new fresh plain here names filled h least =
    let begins : Together site no_layout s = record {
      here = omega (arith, here);
      names = names ∙ sym (append-nil site.before);
      filled = filled;
    } in
    let all = lines_go site imports laid least pairs [] number no_layout s new fresh plain begins (names_begin site.rename site.before) h in
    record {
      u = all.u;
      is = all.is;
      here = all.together.here;
      names = all.together.names;
      filled = all.together.filled;
      own = all.stands.fresh;
      qs = all.qs;
      source_are = all.source_are;
      pair = subst (λ ps. PlacesPair site.first site.rename 0 ps all.qs) (sym all.module_placed) all.pair;
    }
