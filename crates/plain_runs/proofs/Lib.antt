mod Within
