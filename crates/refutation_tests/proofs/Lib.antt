mod SmallLaws
