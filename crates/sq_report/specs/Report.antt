-- The line that reports a packing.
use Rattle.std.specs.Prelude.{ℕ, List, ◌++◌, codes, decimal}
use Rattle.sq_num.specs.declared.packed.Savings.{Savings}
use Rattle.sq_num.specs.declared.packed.Packed.{Packed}
use Rattle.serde_json.specs.Data.{Data, Members, number, unsigned, object, member, no_members}

-- a key, its number, and what follows
abbrev pub labelled : List ℕ → ℕ → List ℕ → List ℕ
labelled key n rest = key ++ (decimal n ++ rest)

-- what each row saved, as text
abbrev pub rows_text : Savings → List ℕ
rows_text s =
    (labelled (codes "{\"C\":") s.c
    (labelled (codes ",\"J1\":") s.j1
    (labelled (codes ",\"J2\":") s.j2
    (labelled (codes ",\"J3\":") s.j3
    (labelled (codes ",\"O1\":") s.o1
    (labelled (codes ",\"O2\":") s.o2
    (labelled (codes ",\"O3\":") s.o3
    (labelled (codes ",\"O4\":") s.o4
    (labelled (codes ",\"T\":") s.t
    (labelled (codes ",\"U\":") s.u
    (codes "}")))))))))))

-- the sizes in bytes, the words that rows and moves saved, and the words of text that nothing reaches
abbrev pub report_text : Packed → List ℕ
report_text p =
    (labelled (codes "{\"loaded_after\":") p.loaded_after
    (labelled (codes ",\"loaded_before\":") p.loaded_before
    (labelled (codes ",\"moved\":") p.savings.moved
    (labelled (codes ",\"procedures\":") p.procedures
    (codes ",\"rows\":" ++ (rows_text p.savings ++
    (labelled (codes ",\"text_after\":") p.text_after
    (labelled (codes ",\"text_before\":") p.text_before
    (labelled (codes ",\"unreached\":") p.unreached
    (codes "}"))))))))))

-- the same as data of JSON
abbrev pub counted : List ℕ → ℕ → Members → Members
counted key n rest = member key (number (unsigned n)) rest

abbrev pub rows_data : Savings → Data
rows_data s =
    object (counted (codes "C") s.c (counted (codes "J1") s.j1 (counted (codes "J2") s.j2 (counted (codes "J3") s.j3
    (counted (codes "O1") s.o1 (counted (codes "O2") s.o2 (counted (codes "O3") s.o3 (counted (codes "O4") s.o4
    (counted (codes "T") s.t (counted (codes "U") s.u no_members))))))))))

abbrev pub report_data : Packed → Data
report_data p =
    object (counted (codes "loaded_after") p.loaded_after (counted (codes "loaded_before") p.loaded_before
    (counted (codes "moved") p.savings.moved (counted (codes "procedures") p.procedures (member (codes "rows") (rows_data p.savings)
    (counted (codes "text_after") p.text_after (counted (codes "text_before") p.text_before
    (counted (codes "unreached") p.unreached no_members))))))))
