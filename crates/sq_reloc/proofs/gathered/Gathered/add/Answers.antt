-- each part has the entry too
use Rattle.std.proofs.Common.{◌&&◌, nat_eq, if◌then◌else◌, Some, None, ap, ◌∙◌}
use Rattle.std.specs.Option.{option_or}
use Rattle.std.specs.Ordering.{nat_cmp}
use Rattle.std.specs.BTreeMap as tree
use Rattle.sq_reloc.specs.declared.entry.Entry.{Entry}
use Rattle.sq_reloc.specs.declared.gathered.Gathered.{Gathered}
use Rattle.sq_reloc.specs.Entries.{target_of}
use Rattle.sq_reloc.proofs.GatheredMore.{IsAdded, add_by_text}
use Rattle.sq_reloc.proofs.gathered.Gathered.add.Goals as goal

pub returns : goal.returns
returns c =
    let e : Entry = c.args.entry in
    let new : Gathered = record { stale = c.insert_stale.new.stale; targets = c.put_first.new.targets; uppers = c.put_first-2.new.targets; lacking = c.found_or-self.result } in
    let added : IsAdded c.args.text c.args.elf.now c.args.self.now new e = record {
      stale = c.in_ok-insert_stale.ensures;
      targets = λ address.
          c.in_ok-put_first.ensures address
          ∙ ap (λ b. option_or (tree.get nat_cmp c.args.self.now.targets address) (if b && nat_eq e.offset address then Some (target_of e) else None)) c.is_code_entry.ensures;
      uppers = c.in_ok-put_first-2.ensures;
      lacking = c.found_or-self.ensures ∙ ap (λ b. option_or c.args.self.now.lacking (if b then Some e else None)) c.is_bad_symbol.ensures;
    } in
    add_by_text c.args.text c.args.elf.now c.args.self.now new e c.requires added
