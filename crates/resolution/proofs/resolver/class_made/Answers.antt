-- The object made is of the class that the entry names.
use Rattle.std.proofs.Common.{◌∙◌, sym, ap, subst, Option, Some, List, ℕ}
use Rattle.std.specs.Option.{option_copied}
use Rattle.class_format.specs.declared.record.PoolEntry.{PoolEntry}
use Rattle.resolution.specs.Misnamings.{Tells}
use Rattle.resolution.specs.Resolution.{class_made, object_made}
use Rattle.resolution.proofs.resolver.class_made.Goals as goal

pub returns-in-Some-Class : goal.returns-in-Some-Class
returns-in-Some-Class c =
    let site = c.args.site.now in
    let classes = site.index.now.classes.now in
    subst (λ (e : Option PoolEntry). Tells (class_made classes c.args.main site.pool.now site.listing.now site.pc e) c.object_made.result)
    (sym (ap (λ (e : PoolEntry). Some e) c.in-Some-Class.field-0-is) ∙ sym (ap option_copied c.in-Some-Class.is) ∙ c.entry_at.ensures)
    (subst (λ (name : List ℕ). Tells (object_made classes c.args.main site.pool.now site.listing.now site.pc name) c.object_made.result)
    c.text_of.ensures
    c.object_made.ensures)
