-- What stands for itself.
abbrev pub same : {A : Type 0} → A → A
same x = x
