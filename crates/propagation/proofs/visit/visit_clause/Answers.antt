use Rattle.std.proofs.Common.{ℕ, inl, inr, List, refl, sym, ◌∙◌, subst}
use Rattle.std.proofs.lemmas.Bool.{cases_eq}
use Rattle.clause_pool.specs.PoolValue.{IsWatched}
use Rattle.clause_pool.proofs.Sound.{some_literals}
use Rattle.literals.specs.Propagation.{IsFalseIn}
use Rattle.trail.specs.Steps.{literals_of}
use Rattle.propagation.proofs.Watching.{others_false, watched_member, open_from}
use Rattle.propagation.proofs.visit.visit_clause.Goals as goal

pub returns-in-True : goal.returns-in-True
returns-in-True c = record {
  is_visit = record {
    literals = c.lits-literals.result.now;
    other = c.other_watch-other.result;
    found = c.lits-literals.ensures.clause;
    watched = subst (λ xs. IsWatched xs c.args.literal) (some_literals c.requires.watching.literals c.lits-literals.result.now (sym c.requires.watching.found ∙ c.lits-literals.ensures.clause)) c.requires.watching.watched;
    other_watched = c.other_watch-other.ensures.watched;
    differ = c.other_watch-other.ensures.other;
  };
  does = (refl, refl, c.in-True.ensures.value);
}

pub returns-in-Some : goal.returns-in-Some
returns-in-Some c = record {
  is_visit = record {
    literals = c.lits-literals.result.now;
    other = c.other_watch-other.result;
    found = c.lits-literals.ensures.clause;
    watched = subst (λ xs. IsWatched xs c.args.literal) (some_literals c.requires.watching.literals c.lits-literals.result.now (sym c.requires.watching.found ∙ c.lits-literals.ensures.clause)) c.requires.watching.watched;
    other_watched = c.other_watch-other.ensures.watched;
    differ = c.other_watch-other.ensures.other;
  };
  does = (
    refl,
    record {
      at = c.in-Some.at;
      behind = c.in-Some.ensures.behind.0;
      within = c.in-Some.ensures.behind.1;
      not_false = c.in-Some.ensures.not_false;
      moved = c.swap_watch.ensures;
    },
  );
}

pub returns-in-False : goal.returns-in-False
returns-in-False c =
    let ls : List ℕ = c.lits-literals.result.now in
    let watched = subst (λ xs. IsWatched xs c.args.literal) (some_literals c.requires.watching.literals ls (sym c.requires.watching.found ∙ c.lits-literals.ensures.clause)) c.requires.watching.watched in
    record {
      is_visit = record {
        literals = ls;
        other = c.other_watch-other.result;
        found = c.lits-literals.ensures.clause;
        watched = watched;
        other_watched = c.other_watch-other.ensures.watched;
        differ = c.other_watch-other.ensures.other;
      };
      does = (
        refl,
        refl,
        λ x i. elim (cases_eq x c.other_watch-other.result) [
          | inl same ↦ subst (IsFalseIn (literals_of c.args.trail.now.steps)) (sym same) c.in-False.ensures.value
          | inr apart ↦ others_false (literals_of c.args.trail.now.steps) ls c.args.literal c.other_watch-other.result watched c.other_watch-other.ensures.watched c.other_watch-other.ensures.other c.requires.is_false c.in_default-place_not_false.ensures.all_false x i apart
        ],
      );
    }

pub returns : goal.returns
returns c =
    let ls : List ℕ = c.lits-literals.result.now in
    let watched = subst (λ xs. IsWatched xs c.args.literal) (some_literals c.requires.watching.literals ls (sym c.requires.watching.found ∙ c.lits-literals.ensures.clause)) c.requires.watching.watched in
    record {
      is_visit = record {
        literals = ls;
        other = c.other_watch-other.result;
        found = c.lits-literals.ensures.clause;
        watched = watched;
        other_watched = c.other_watch-other.ensures.watched;
        differ = c.other_watch-other.ensures.other;
      };
      does = (
        refl,
        c.assign.ensures,
        record {
          unit = record {
            member = watched_member ls c.other_watch-other.result c.other_watch-other.ensures.watched;
            others_false = others_false (literals_of c.args.trail.now.steps) ls c.args.literal c.other_watch-other.result watched c.other_watch-other.ensures.watched c.other_watch-other.ensures.other c.requires.is_false c.in_default-place_not_false.ensures.all_false;
          };
          open_value = open_from (literals_of c.args.trail.now.steps) c.other_watch-other.result c.value-value.result c.value-value.ensures.value c.in_default.not-True c.in_default-value.not-False;
        },
      );
    }
